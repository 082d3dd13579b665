-- The layouts that several markers share, and lengths by the low half of a marker.
use Rattle.std.proofs.Common.{rules, refl, ◌≡◌, ℕ, ◌+◌, ◌*◌, ◌%◌, ◌<◌, ◌≤◌, List, arith}
use Rattle.plist_base.specs.Trees.{Data, Uid}
use Rattle.plist_base.specs.Container.{number_of, numbers_spelled}
use Rattle.plist_base.specs.Object.{high_half, Scalar, Array, Layout, Refused, Fixed, Counted, text, wide_text, counted_layout, dictionary, layout_of, object_after_marker}
use Rattle.plist_base.specs.declared.marker.CountedKind.{CountedKind}
use Rattle.plist_base.specs.declared.marker.CountedKind.TheVariants as kind

pub layout-data : (w m : ℕ) → 64 ≤ m → m ≤ 79
    → layout_of w m ≡ Counted 1 (λ _ content. Scalar (Data content))
layout-data w m low high = search rules

pub layout-text : (w m : ℕ) → 80 ≤ m → m ≤ 95 → layout_of w m ≡ Counted 1 (λ _. text)
layout-text w m low high = search rules

pub layout-wide_text : (w m : ℕ) → 96 ≤ m → m ≤ 111 → layout_of w m ≡ Counted 2 (λ _. wide_text)
layout-wide_text w m low high = search rules

pub layout-array : (w m : ℕ) → 160 ≤ m → m ≤ 175
    → layout_of w m ≡ Counted w (λ _ content. Array (numbers_spelled w content))
layout-array w m low high = search rules

pub layout-dictionary : (w m : ℕ) → 208 ≤ m → m ≤ 223
    → layout_of w m ≡ Counted (2 * w) (λ count content. dictionary count
    (numbers_spelled w content))
layout-dictionary w m low high = search rules

pub layout-counted : (w : ℕ) (kind : CountedKind) (low : ℕ) → low < 16
    → layout_of w (high_half kind * 16 + low) ≡ counted_layout w kind
layout-counted w kind.Data low h = layout-data w (0x40 + low) (omega arith) (omega arith)
layout-counted w kind.Text low h = layout-text w (0x50 + low) (omega arith) (omega arith)
layout-counted w kind.WideText low h = layout-wide_text w (0x60 + low) (omega arith) (omega arith)
layout-counted w kind.Array low h = layout-array w (0xa0 + low) (omega arith) (omega arith)
layout-counted w kind.Dictionary low h =
    layout-dictionary w (0xd0 + low) (omega arith) (omega arith)

pub layout-uid : (w bytes : ℕ) → 0 < bytes → bytes ≤ 8
    → layout_of w (0x7f + bytes) ≡ Fixed bytes (λ content. Scalar (Uid (number_of content)))
layout-uid w bytes some few = search rules

-- what follows a marker depends on its low half alone
pub behind_by_half : (m low : ℕ) (layout : Layout) (rest : List ℕ) → m % 16 ≡ low % 16
    → object_after_marker m layout rest ≡ object_after_marker low layout rest
behind_by_half m low (Refused kind) rest half = refl
behind_by_half m low (Fixed size meaning) rest half = refl
behind_by_half m low (Counted size meaning) rest half = rw half refl
