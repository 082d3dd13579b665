-- Events that are copied from a source to a writer.
use Rattle.std.proofs.Common.{◌≡◌, inl, inr, List, [], ◌∷◌, Result, Ok, Err, ap, ◌∙◌, refl}
use Rattle.plist_base.specs.declared.copy.EventCopier.{EventCopier}
use Rattle.plist_base.specs.declared.error.Error.{Error}
use Rattle.plist_base.specs.declared.visitor.Visited.{Visited}
use Rattle.plist_base.specs.declared.visitor.Visited.TheVariants.{Ended, Stopped}
use Rattle.plist_base.specs.Copying.{Copies, CopiesAll, WritesEvent}
use Rattle.plist_base.specs.Events.{PlainEvent}
use Rattle.plist_base.specs.Visits.{HandsOverAll, PlainItem, Visits}
use Rattle.plist_base.specs.Writing.{Answer}
use Rattle.plist_base.proofs.Visits.{kept_by_visit}

module _ {I W : Type 0} (yields : I → PlainItem → I → Type 0)
    (Step : W → PlainEvent → Answer → W → Type 0) where
  -- a source and its copier's writer
  abbrev with_writer : I × EventCopier W → I × W
  with_writer now = (now.0, now.1.writer.now)

  -- the events that were handed over were copied, and the copier's result is unchanged
  record HasCopied (old : I × EventCopier W) (events : List PlainEvent) (new : I × EventCopier W)
      : Type 0 where
    copied : CopiesAll yields Step (with_writer old) events (with_writer new)
    unchanged : new.1.result ≡ old.1.result

  copied_all : (old new : I × EventCopier W) (events : List PlainEvent)
      → HandsOverAll yields (WritesEvent Step) old events new → HasCopied old events new
  copied_all old new [] is = record {
    copied = ap with_writer is;
    unchanged = ap (λ (now : I × EventCopier W). now.1.result) is;
  }
  copied_all old new (event ∷ events) (next, one, others) =
      let rest = copied_all next new events others in record {
        copied = (
          with_writer next,
          record { given = one.given; written = one.taken.answer.0 },
          rest.copied,
        );
        unchanged = rest.unchanged ∙ one.taken.answer.1;
      }

  -- the copier writes all events to one writer
  pub same_writer : (answer : Result Visited Error) (old new : I × EventCopier W)
      → Visits yields (WritesEvent Step) old answer new
      → new.1.writer.ghost_name ≡ old.1.writer.ghost_name
  same_writer answer old new visit = kept_by_visit yields (WritesEvent Step)
      (λ copier. copier.writer.ghost_name ≡ old.1.writer.ghost_name)
      (λ now next event flow before one. one.same ∙ before) answer old new refl visit

  module _ (old new : I × EventCopier W) (before after : W) (first : old.1.writer.now ≡ before)
      (last : after ≡ new.1.writer.now) where
    -- after a visit that ends without an error of the source, the copier has the copy's result
    pub copied_to_end : (visited : Visited) → old.1.result ≡ Ok tt
        → Visits yields (WritesEvent Step) old (Ok visited) new
        → Copies yields Step (old.0, before) new.1.result (new.0, after)
    copied_to_end Ended fine visit =
        let all = copied_all old visit.left visit.events visit.handed in
        let works : new.1.result ≡ Ok tt =
        ap (λ (c : EventCopier W). c.result) visit.ended.1 ∙ all.unchanged ∙ fine in
        rw (← first, last, works) (record {
          events = visit.events;
          left = with_writer visit.left;
          copied = all.copied;
          ended = (visit.ended.0, ap (λ (c : EventCopier W). c.writer.now) visit.ended.1);
        })
    copied_to_end Stopped fine visit =
        let (event, one) = visit.ended in let (error, is, written) = one.taken.answer in
        rw (← first, last, is) (record {
          events = visit.events;
          left = with_writer visit.left;
          copied = (copied_all old visit.left visit.events visit.handed).copied;
          ended = inr (event, record { given = one.given; written = written });
        })

    -- an error of the source ends the copy
    pub copied_to_error : (error : Error) → Visits yields (WritesEvent Step) old (Err error) new
        → Copies yields Step (old.0, before) (Err error) (new.0, after)
    copied_to_error error visit = rw (← first, last) (record {
      events = visit.events;
      left = with_writer visit.left;
      copied = (copied_all old visit.left visit.events visit.handed).copied;
      ended = inl (visit.ended.0, ap (λ (c : EventCopier W). c.writer.now) visit.ended.1);
    })
