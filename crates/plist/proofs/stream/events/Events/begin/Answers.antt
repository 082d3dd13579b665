use Rattle.plist.proofs.GivenEvents.{gives_event}
use Rattle.plist.proofs.Starts.{array_begins, dictionary_begins}
use Rattle.std.proofs.Common.{◌∙◌}
use Rattle.plist.proofs.stream.events.Events.begin.Goals as goal

pub returns-in_ok-open-in-Array : goal.returns-in_ok-open-in-Array
returns-in_ok-open-in-Array c =
    gives_event _ (array_begins _ _ _ _ _ _ c.in-Array.is c.as_slice.ensures.value
    (c.len.ensures ∙ c.in-Array.items.ok.0) c.in_ok-open-in-Array.ensures.opened) tt

pub returns-in_ok-open-in-Dictionary : goal.returns-in_ok-open-in-Dictionary
returns-in_ok-open-in-Dictionary c =
    gives_event _ (dictionary_begins _ _ _ _ _ _ c.in-Dictionary.is c.iter.ensures.rest
    c.iter.ensures.distinct c.len-in-Dictionary.ensures.count
    c.in_ok-open-in-Dictionary.ensures.opened) tt
