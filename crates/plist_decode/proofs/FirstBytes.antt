-- The first ones of eight bytes.
use Rattle.std.proofs.Common.{◌≡◌, ℕ, zero, suc, ◌-◌, ◌*◌, ◌%◌, ◌^◌, ◌<◌, ◌≤◌, List, [], ◌∷◌, length, take, get_or, arith}
use Rattle.std.specs.Int.{from_be_bytes, w64}
use Rattle.plist_base.specs.Packing.{padded}

-- the number of eight bytes without the low ones is that of the first bytes and zeros
pub cut_eight : (bytes : List ℕ) (count : ℕ) → length bytes ≡ 8
    → ((i : ℕ) → get_or bytes i 0 < 256) → 0 < count → count ≤ 8
    → from_be_bytes w64 bytes - from_be_bytes w64 bytes % 2 ^ (64 - 8 * count)
    ≡ from_be_bytes w64 (padded (take count bytes))
cut_eight (a ∷ b ∷ c ∷ d ∷ e ∷ f ∷ g ∷ h ∷ []) (suc zero) len small some few =
    omega (arith, small 1, small 2, small 3, small 4, small 5, small 6, small 7)
cut_eight (a ∷ b ∷ c ∷ d ∷ e ∷ f ∷ g ∷ h ∷ []) (suc (suc zero)) len small some few =
    omega (arith, small 2, small 3, small 4, small 5, small 6, small 7)
cut_eight (a ∷ b ∷ c ∷ d ∷ e ∷ f ∷ g ∷ h ∷ []) (suc (suc (suc zero))) len small some few =
    omega (arith, small 3, small 4, small 5, small 6, small 7)
cut_eight (a ∷ b ∷ c ∷ d ∷ e ∷ f ∷ g ∷ h ∷ []) (suc (suc (suc (suc zero)))) len small some few =
    omega (arith, small 4, small 5, small 6, small 7)
cut_eight (a ∷ b ∷ c ∷ d ∷ e ∷ f ∷ g ∷ h ∷ []) (suc (suc (suc (suc (suc zero))))) len small some few =
    omega (arith, small 5, small 6, small 7)
cut_eight (a ∷ b ∷ c ∷ d ∷ e ∷ f ∷ g ∷ h ∷ []) (suc (suc (suc (suc (suc (suc zero)))))) len small some
    few = omega (arith, small 6, small 7)
cut_eight (a ∷ b ∷ c ∷ d ∷ e ∷ f ∷ g ∷ h ∷ []) (suc (suc (suc (suc (suc (suc (suc zero))))))) len small
    some few = omega (arith, small 7)
cut_eight (a ∷ b ∷ c ∷ d ∷ e ∷ f ∷ g ∷ h ∷ []) (suc (suc (suc (suc (suc (suc (suc (suc zero)))))))) len
    small some few = omega arith
cut_eight bytes count len small some few = absurd (omega (arith, len, some, few))
