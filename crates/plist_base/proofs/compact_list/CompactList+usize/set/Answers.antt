use Rattle.std.proofs.Common.{◌<◌, ◌++◌, length, set, ap, sym, ◌∙◌, arith}
use Rattle.std.proofs.lemmas.List.{map-id, set-append_left}
use Rattle.plist_base.proofs.compact_list.CompactList+usize.set.Goals as goal

-- the number is replaced among those of four bytes
pub returns-in-Some-clause-set : goal.returns-in-Some-clause-set
returns-in-Some-clause-set c =
    let narrow = c.self.inside.narrow.items in
    let wide = c.self.inside.wide.items in
    let index = c.args.index in
    let within : index < length narrow = omega (arith, c.if-index-below.false, c.len-below.ensures) in
    ap (λ l. l ++ wide) (map-id (set narrow index c.in-Some.stored)
    ∙ ap (set narrow index) c.in-Some.ensures)
    ∙ sym (set-append_left narrow wide index c.args.number within)
    ∙ ap (λ l. set (l ++ wide) index c.args.number) (sym (map-id narrow))
    ∙ ap (λ l. set l index c.args.number) c.self.view_is
