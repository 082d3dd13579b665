use Rattle.std.proofs.Common.{◌<◌, ◌-◌, ◌^◌, Some, Ok, arith, refl}
use Rattle.std.proofs.lemmas.Bool.{cond_both}
use Rattle.std.specs.declared.borrow.CowStr.TheVariants.{Borrowed}
use Rattle.plist_base.specs.declared.event.Event.TheVariants.{String}
use Rattle.plist_ascii.proofs.FrontTexts.{borrowed_gives, some_going}
use Rattle.plist_ascii.proofs.reader.AsciiReader.hand_over.Goals as goal

pub returns-clause-turn : goal.returns-clause-turn
returns-clause-turn g c =
    let borrowed = c.in-Some.borrowed in
    let event = String (Borrowed borrowed.text) in (
      _,
      record {
        given = (
          Some (Ok event),
          borrowed_gives g.R.ByteReader.remaining g.R.ByteReader.failures c.args.self.now
              c.take_first.new.self borrowed.count borrowed.text.now event refl c.in-Some.ensures.text
              (some_going _ _ _ _ borrowed.count c.in-Some.ensures.within c.in-Some.ensures.some)
              c.take_first.ensures.bytes c.take_first.ensures.place c.in-Some.ensures.some
              (c.take_first.ensures.peeked c.in-Some.ensures.some) c.take_first.ensures.failures,
          refl,
        );
        taken = c.string-flow.ensures;
      },
    )

pub returns-clause-falls : goal.returns-clause-falls
returns-clause-falls g c =
    let some = c.in-Some.ensures.some in
    rw (some_going _ _ _ _ c.in-Some.borrowed.count c.in-Some.ensures.within some)
    (cond_both c.take_first.new.self.ended _ _ (λ m. m < 2 ^ 64 - c.args.self.now.input.taken)
    (λ e. omega arith) (λ e. omega arith))
