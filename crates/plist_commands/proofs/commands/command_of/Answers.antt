use Rattle.std.proofs.Common.{◌≡◌, ℕ, ◌≤◌, ◌<◌, List, [], ◌∷◌, length, get_or, map, codes, sym, ◌∙◌, arith, true}
use Rattle.std.specs.Str.{bytes_eq}
use Rattle.std.proofs.lemmas.Slice.Eq.{bytes_eq-Decides}
use Rattle.plist_commands.proofs.commands.command_of.Goals as goal
use Rattle.plist_commands.specs.Commands.{Print, Convert, Keyed}

-- a list of two words, and one of three, consists of these items
two : {A : Type 0} (text : A → List ℕ) (word : List ℕ) (items : List A) (first second : A)
    (verb file : List ℕ) → 2 ≤ length items → length items < 3 → first ≡ get_or items 0 first
    → second ≡ get_or items 1 second → verb ≡ text first → file ≡ text second
    → bytes_eq verb word ≡ true → map text items ≡ word ∷ file ∷ []
two text word (x ∷ y ∷ []) first second verb file low high a b v f same =
    cc ((bytes_eq-Decides verb word).0 same)
two text word [] first second verb file low high a b v f same = absurd (omega arith)
two text word (x ∷ []) first second verb file low high a b v f same = absurd (omega arith)
two text word (x ∷ y ∷ z ∷ l) first second verb file low high a b v f same = absurd (omega arith)

three : {A : Type 0} (text : A → List ℕ) (word : List ℕ) (items : List A) (first second third : A)
    (verb from to : List ℕ) → 3 ≤ length items → length items < 4 → first ≡ get_or items 0 first
    → second ≡ get_or items 1 second → third ≡ get_or items 2 third → verb ≡ text first
    → from ≡ text second → to ≡ text third → bytes_eq verb word ≡ true
    → map text items ≡ word ∷ from ∷ to ∷ []
three text word (x ∷ y ∷ z ∷ []) first second third verb from to low high a b d v f o same =
    cc ((bytes_eq-Decides verb word).0 same)
three text word [] first second third verb from to low high a b d v f o same = absurd (omega arith)
three text word (x ∷ []) first second third verb from to low high a b d v f o same =
    absurd (omega arith)
three text word (x ∷ y ∷ []) first second third verb from to low high a b d v f o same =
    absurd (omega arith)
three text word (x ∷ y ∷ z ∷ w ∷ l) first second third verb from to low high a b d v f o same =
    absurd (omega arith)

pub returns-in-len2-clause-found : goal.returns-in-len2-clause-found
returns-in-len2-clause-found c =
    two _ (codes "print") _ _ _ c.as_str.result.now _ c.in-len2.len_at_least c.in-len2.len_below
    c.verb-item.is c.file-item.is c.as_str.ensures.value c.as_str-in-len2.ensures.value
    (sym c.eq.ensures ∙ c.if-eq.true)

pub returns-in-len2-clause-wrong : goal.returns-in-len2-clause-wrong
returns-in-len2-clause-wrong c =
    (λ none asked is. cc, λ wrong. absurd (wrong (Print _) (returns-in-len2-clause-found c)))

pub returns-in-len3-clause-found : goal.returns-in-len3-clause-found
returns-in-len3-clause-found c =
    three _ (codes "convert") _ _ _ _ c.as_str-then-words-lt4.result.now _ _
    c.in-len3.len_at_least c.in-len3.len_below c.verb-item-then-words-lt4.is c.from-item.is
    c.to-item.is
    c.as_str-then-words-lt4.ensures.value c.as_str-in-len3.ensures.value
    c.as_str-in-len3-2.ensures.value (sym c.eq-then-words-lt4.ensures ∙ c.if-eq-2.true)

pub returns-in-len3-clause-wrong : goal.returns-in-len3-clause-wrong
returns-in-len3-clause-wrong c =
    (λ none asked is. cc, λ wrong. absurd (wrong (Convert _ _) (returns-in-len3-clause-found c)))

pub returns-in-len3-2-clause-found : goal.returns-in-len3-2-clause-found
returns-in-len3-2-clause-found c =
    three _ (codes "keyed") _ _ _ _ c.as_str-then-words-lt4-2.result.now _ _
    c.in-len3.len_at_least c.in-len3.len_below c.verb-item-then-words-lt4-2.is
    c.file-item-then-words-lt4.is c.key-item.is
    c.as_str-then-words-lt4-2.ensures.value c.as_str-in-len3-2-2.ensures.value
    c.as_str-in-len3-2-3.ensures.value (sym c.eq-then-words-lt4-2.ensures ∙ c.if-eq-3.true)

pub returns-in-len3-2-clause-wrong : goal.returns-in-len3-2-clause-wrong
returns-in-len3-2-clause-wrong c =
    (λ none asked is. cc, λ wrong. absurd (wrong (Keyed _ _) (returns-in-len3-2-clause-found c)))
