use Rattle.std.proofs.Common.{◌≡◌, List, true}
use Rattle.plist_base.specs.Events.{PlainEvent}
use Rattle.plist_base.specs.Visits.{HandsOverAll}
use Rattle.plist_binread.specs.BinaryReader.{Remembers, Steps, binary_steps, has_limits}
use Rattle.plist_binread.specs.Tokens.{HasNoTokens}
use Rattle.plist_binread.proofs.reader.BinaryReader.visit_all.Given as goal

-- these events were handed over, the reader still has limits if it had some, and the visitor has
-- taken the scalars for which tokens are stored, of which there are none within limits
abbrev pub invariant-loop-turn : goal.invariant-loop-turn
invariant-loop-turn g l =
    (events : List PlainEvent)
    × (HandsOverAll Steps g.V.EventVisitor.step (l.fn.self, l.fn.visitor) events (l.self, l.visitor)
    × (l.limited ≡ has_limits l.self)
    × Remembers g.V.EventVisitor.step g.V.EventVisitor.names l.self l.tokens l.visitor
    × (l.limited ≡ true → HasNoTokens l.tokens))

abbrev pub decreases-loop-turn : goal.decreases-loop-turn
decreases-loop-turn g l = binary_steps l.self
