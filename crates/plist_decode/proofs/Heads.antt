-- How the head of a file is read, step by step.
use Rattle.std.proofs.Common.{◌≡◌, ℕ, ◌+◌, ◌-◌, ◌*◌, ◌<◌, ◌≤◌, Bool, true, false, List, length, take, drop, Option, Result, Ok, Err, IfSome, nat_eq, refl, ap, sym, ◌∙◌, arith}
use Rattle.std.specs.Prelude.{⊤}
use Rattle.std.specs.List.{starts_with}
use Rattle.std.proofs.lemmas.Bool.{lt-ltb, le-ltb}
use Rattle.std.proofs.lemmas.List.{length-drop, take_all}
use Rattle.plist_base.specs.declared.error.Error.{Error}
use Rattle.plist_base.specs.Faults.{Fault, fault_at, fault_of, kind_of, error_kind_of, UnexpectedEof, InvalidMagic, MatchFault, IsIo, IsIoOrMemory}
use Rattle.plist_base.proofs.Refusals.{MatchFault-all, MatchFault-from_io, MatchFault-weaker}
use Rattle.plist_base.specs.Container.{Trailer, Head, magic, trailer_in, head_at, head_with, head_of, numbers_spelled}
use Rattle.plist_decode.specs.inner.Heads.{IsFaultBefore}
use Rattle.std.proofs.lemmas.Option.{IfSome_then}
use Rattle.plist_decode.proofs.UnknownBytes.{IfSome-both}

-- if the last 32 bytes were read, the trailer was decoded from them
pub trailer_read : (known : Option (List ℕ)) (slot : List ℕ) (trailer : ℕ) (t : Trailer)
    → t ≡ trailer_in slot → length slot ≡ 32
    → IfSome known (λ bytes. slot ≡ take (length slot) (drop trailer bytes))
    → IfSome known (λ bytes. length bytes ≡ trailer + 32 → t ≡ trailer_in (drop trailer bytes))
trailer_read known slot trailer t is len read = IfSome_then known read (λ bytes read size.
    let rest : length (drop trailer bytes) ≡ length bytes - trailer = length-drop trailer bytes in
    is ∙ ap trailer_in (read ∙ take_all (length slot) (drop trailer bytes) (omega arith)))

-- the error is that of the head, or a read or an allocation failed
abbrev HeadRefused : Option (List ℕ) → Error → Type 0
HeadRefused known e =
    IfSome known (λ bytes. MatchFault (kind_of (error_kind_of e)) ⊤ ⊤
    (head_of bytes ≡ Err (fault_of e)))

refused_as : (known : Option (List ℕ)) (e : Error) (f : Fault) → fault_of e ≡ f
    → IfSome known (λ bytes. head_of bytes ≡ Err f) → HeadRefused known e
refused_as known e f is head = IfSome_then known head (λ bytes head.
    MatchFault-all _ tt tt (head ∙ ap Err (sym is)))

pub refused_short : (known : Option (List ℕ)) (e : Error) (size : ℕ)
    → fault_of e ≡ fault_at UnexpectedEof size → IfSome known (λ bytes. size ≡ length bytes)
    → size < 8 → HeadRefused known e
unfolding head_of
refused_short known e size is len h = refused_as known e _ is (IfSome_then known len (λ bytes len.
    let short : length bytes < 8 = omega arith in rw (lt-ltb _ 8 short, len) refl))

-- if the bytes end with a trailer at this offset, `P` is true of their head
abbrev pub HeadSaid : (Result Head Fault → Type 0) → (trailer : ℕ) → List ℕ → Type 0
HeadSaid P trailer bytes =
    length bytes ≡ trailer + 32 → P (head_with bytes trailer (trailer_in (drop trailer bytes)))

-- the source has `size` bytes
module _ (known now : Option (List ℕ)) (size : ℕ) (same : now ≡ known)
    (len : IfSome known (λ bytes. size ≡ length bytes)) (long : 8 ≤ size) where
  pub refused_io : (e : Error)
      → IfSome now (λ bytes. 0 + 8 ≤ length bytes → IsIo (kind_of (error_kind_of e)))
      → HeadRefused known e
  refused_io e failed = IfSome-both known len (rw same at failed) (λ bytes len io.
      MatchFault-from_io (kind_of (error_kind_of e)) ⊤ ⊤ _ (io (omega arith)) tt)

  -- `found` says whether the bytes begin with the magic
  module _ (found : Bool) (has : IfSome now (λ bytes. found ≡ starts_with nat_eq bytes magic)) where
    pub refused_magic : (e : Error) → fault_of e ≡ fault_at InvalidMagic 0 → found ≡ false
        → HeadRefused known e
    unfolding head_of
    refused_magic e is absent = refused_as known e _ is
        (IfSome-both known len (rw same at has) (λ bytes len has.
        let long : 8 ≤ length bytes = omega arith in
        rw (le-ltb _ 8 long, sym has ∙ absent) refl))

    pub refused_cut : (e : Error) → fault_of e ≡ fault_at UnexpectedEof size → found ≡ true
        → size < 32 → HeadRefused known e
    unfolding head_of
    refused_cut e is there cut = refused_as known e _ is
        (IfSome-both known len (rw same at has) (λ bytes len has.
        let long : 8 ≤ length bytes = omega arith in
        let cut : length bytes < 32 = omega arith in
        rw (le-ltb _ 8 long, sym has ∙ there, lt-ltb _ 32 cut, len) refl))

    -- what is true of the head that a trailer determines is true of the head of the whole file
    pub head_whole : (P : Result Head Fault → Type 0) (slot : Option (List ℕ)) → slot ≡ known
        → found ≡ true → 32 ≤ size → IfSome slot (HeadSaid P (size - 32))
        → IfSome known (λ bytes. P (head_of bytes))
    unfolding head_of
    head_whole P slot same' there big said =
        let whole : IfSome known (λ bytes. size ≡ length bytes → P (head_of bytes)) =
        IfSome-both known (rw same at has) (rw same' at said) (λ bytes has said len.
        let long : 8 ≤ length bytes = omega (arith, len) in
        let big : 32 ≤ length bytes = omega (arith, len) in
        rw (le-ltb _ 8 long, sym has ∙ there, le-ltb _ 32 big, ← len)
        (said (omega (arith, len)))) in
        IfSome-both known len whole (λ bytes len whole. whole len)

-- ---- the head that a trailer determines

-- if the bytes end with a trailer at this offset, `t` is that trailer
abbrev TellsTrailer : Option (List ℕ) → (trailer : ℕ) → Trailer → Type 0
TellsTrailer known trailer t =
    IfSome known (λ bytes. length bytes ≡ trailer + 32 → t ≡ trailer_in (drop trailer bytes))

-- the trailer couldn't be read
pub fault_reading : (known : Option (List ℕ)) (trailer : ℕ) (fault : Fault)
    → IfSome known (λ bytes. trailer + 32 ≤ length bytes → IsIo fault.kind)
    → IfSome known (λ bytes. IsFaultBefore trailer bytes fault)
fault_reading known trailer fault refused = IfSome_then known refused (λ bytes io size.
    MatchFault-from_io fault.kind ⊤ ⊤ _ (io (omega arith)) tt)

-- the trailer is rejected
pub fault_checking : (known : Option (List ℕ)) (trailer : ℕ) (t : Trailer) (fault : Fault)
    → TellsTrailer known trailer t → ((bytes : List ℕ) → head_with bytes trailer t ≡ Err fault)
    → IfSome known (λ bytes. IsFaultBefore trailer bytes fault)
fault_checking known trailer t fault current refused = IfSome_then known current
    (λ bytes current size.
    MatchFault-all fault.kind tt tt
    (ap (head_with bytes trailer) (sym (current size)) ∙ refused bytes))

-- the offset table couldn't be read
pub fault_placing : (known now : Option (List ℕ)) (trailer table size : ℕ) (fault : Fault)
    → now ≡ known → table + size ≤ trailer
    → IfSome now (λ bytes. table + size ≤ length bytes → IsIoOrMemory fault.kind)
    → IfSome known (λ bytes. IsFaultBefore trailer bytes fault)
fault_placing known now trailer table size fault same fits refused =
    let refused' = rw same at refused in
    IfSome_then known refused' (λ bytes outside whole.
    MatchFault-weaker fault.kind (λ any. any) (λ any. any) (λ none. absurd none)
    (outside (omega arith)))

-- the offset table was read
pub head_placed : (known now : Option (List ℕ)) (trailer : ℕ) (t : Trailer) (places : List ℕ)
    → now ≡ known → t.table + t.count * t.offset_width ≤ trailer → TellsTrailer known trailer t
    → ((bytes : List ℕ) → head_with bytes trailer t ≡ Ok (head_at bytes trailer t))
    → IfSome now (λ bytes. t.table + t.count * t.offset_width ≤ length bytes → places
    ≡ numbers_spelled t.offset_width (take (t.count * t.offset_width) (drop t.table bytes)))
    → IfSome known (λ bytes. length bytes ≡ trailer + 32
    → head_with bytes trailer (trailer_in (drop trailer bytes))
    ≡ Ok (record {
      trailer = trailer;
      reference_width = t.reference_width;
      root = t.root;
      places = places;
    }))
head_placed known now trailer t places same fits current has read =
    let read' = rw same at read in
    IfSome-both known current read' (λ bytes current read size.
    ap (head_with bytes trailer) (sym (current size)) ∙ has bytes
    ∙ ap (λ ps. Ok (record {
      trailer = trailer;
      reference_width = t.reference_width;
      root = t.root;
      places = ps;
    })) (sym (read (omega arith))))
