use Rattle.std.proofs.Common.{◌∙◌, refl, sym}
use Rattle.plist_base.specs.declared.event.EventShape.TheVariants as shape
use Rattle.plist_buffer.proofs.Innermost.{last_within, last_expects, last_is_start, none_expects}
use Rattle.plist_buffer.proofs.event_table.EventTable.innermost_expect.Goals as goal

pub kind_at-requires : goal.kind_at-requires
kind_at-requires c = last_within c.args.self.now _ _ c.in_ok-last.ensures.some

pub returns-in-StartArray : goal.returns-in-StartArray
returns-in-StartArray c =
    last_expects c.args.self.now _ _ c.in_ok-last.ensures.some
    shape.StartArray (sym c.in-StartArray.is ∙ c.kind_at.ensures)

pub returns-in-StartDictionary : goal.returns-in-StartDictionary
returns-in-StartDictionary c =
    last_expects c.args.self.now _ _ c.in_ok-last.ensures.some
    shape.StartDictionary (sym c.in-StartDictionary.is ∙ c.kind_at.ensures)

pub returns-in-Scalar : goal.returns-in-Scalar
returns-in-Scalar c =
    last_is_start c.args.self.now _ _ c.in_ok-last.ensures.some _ c.kind_at.ensures c.in-Scalar.is

pub returns-in_err-last : goal.returns-in_err-last
returns-in_err-last c = rw c.from_residual.ensures (none_expects c.args.self.now (c.in_err-last.ensures.none refl))
