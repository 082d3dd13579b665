use Rattle.plist_ascii.specs.Unread.{unread_of}
use Rattle.plist_ascii.proofs.Dialects.{only_bare_texts_differ}
use Rattle.plist_ascii.proofs.reader.AsciiReader.with_dialect.Goals as goal

pub returns-clause-bytes : goal.returns-clause-bytes
unfolding unread_of
returns-clause-bytes g c =
    let fresh = c.new.ensures.fresh in rw (c.new.ensures.inner, fresh.0, fresh.1, fresh.2)

pub returns-clause-alike : goal.returns-clause-alike
returns-clause-alike g c = only_bare_texts_differ
