-- The bytes of a window from an offset on.
use Rattle.std.proofs.Common.{◌≡◌, ℕ, ◌+◌, ◌*◌, ◌-◌, ◌%◌, ◌≤◌, List, length, min, take, drop, get_or, sym, ap, ◌∙◌, arith, inr}
use Rattle.std.proofs.lemmas.List.{drop-drop, drop-take, length-drop, take_all, take_min}
use Rattle.std.proofs.lemmas.Option.{get_or_from_slice_get}
use Rattle.plist_base.specs.declared.window.Header.{Header}
use Rattle.plist_base.specs.inner.Windows.{IsWindowOf, LendsFrom}

pub rest_of_part : (start from size : ℕ) (bytes : List ℕ) → from ≤ size
    → take (size - from) (drop (start + from) bytes) ≡ drop from (take size (drop start bytes))
rest_of_part start from size bytes within =
    ap (take (size - from)) (sym (drop-drop from start bytes))
    ∙ sym (drop-take from (size - from) (drop start bytes))
    ∙ ap (λ n. drop from (take n (drop start bytes))) (omega (arith, within))

-- the first bytes from an index on, or all of them if there are fewer
pub cut : (n m first : ℕ) (bytes : List ℕ)
    → m ≡ min n (length (take (length bytes - first) (drop first bytes)))
    → take m (take (length bytes - first) (drop first bytes)) ≡ take n (drop first bytes)
cut n m first bytes is =
    rw (is, take_all (length bytes - first) (drop first bytes) (omega (arith, length-drop first bytes)))
    (take_min n (drop first bytes))

-- these are the bytes, from an offset on, of the window that contains this offset
pub lends_part : (size place i : ℕ) (headers : List Header) (bytes lent : List ℕ) (none : Header)
    → IsWindowOf size headers i place → place % size ≤ (get_or headers i none).filled
    → lent ≡ take ((get_or headers i none).filled - place % size)
    (drop (i * (size + 64) + place % size) bytes)
    → LendsFrom size headers bytes place lent
lends_part size place i headers bytes lent none (header, found, begins) within is =
    let same = get_or_from_slice_get headers i header none found in
    inr (
      i,
      header,
      found,
      begins,
      is ∙ ap (λ h. take (h.filled - place % size) (drop (i * (size + 64) + place % size) bytes)) same
          ∙ rest_of_part (i * (size + 64)) (place % size) header.filled bytes (rw (sym same) within),
    )
