-- Copies of a few bytes of a source, and the references of collections that are read from them.
use Rattle.std.specs.Prelude.{◌≡◌, ℕ, ◌+◌, ◌*◌, ◌<◌, ◌≤◌, List, length, slice_index, Option, Result, IfSome, MatchResult}
use Rattle.plist_base.specs.declared.error.Error.{Error}
use Rattle.plist_base.specs.Faults.{IsIo, kind_of, error_kind_of}
use Rattle.plist_base.specs.Sources.{LiesAt}
use Rattle.plist_base.specs.Container.{number_at}
use Rattle.plist_decode.specs.Decoding.{AreReferencesAt, children_in, reference_index}
use Rattle.plist_decode.specs.Reading.{bytes_at, object_at}
use Rattle.plist_decode.specs.declared.head.Bounds.{Bounds}
use Rattle.plist_binread.specs.declared.references.ReferenceReader.{ReferenceReader}
use Rattle.plist_binread.specs.declared.references.References.{References}
use Rattle.plist_binread.specs.declared.references.Run.{Run}

-- ---- copies of bytes

-- if the bytes of the source are known, the run is empty or a copy of some of them
abbrev pub IsRunOf : (known : Option (List ℕ)) → Run → Type 0
IsRunOf known run = 0 < run.starts → IfSome known (λ bytes. LiesAt bytes run.at run.bytes)

-- the runs of a reader are copies of bytes of the source
abbrev pub AreRunsOf : (known : Option (List ℕ)) → ReferenceReader → Type 0
AreRunsOf known references = IsRunOf known references.near × IsRunOf known references.values

-- if a number was found and the bytes are known, it is the number of `width` bytes at an offset
abbrev pub IsNumberAt : Option ℕ → (known : Option (List ℕ)) → (place width : ℕ) → Type 0
IsNumberAt found known place width =
    IfSome found (λ number. IfSome known (λ bytes. number ≡ number_at bytes place width))

-- ---- the references of a collection

-- if the object at an offset has a child of this index, its number is read, or `Io` is returned
abbrev pub ReadsChildAt : Result ℕ Error → (known : Option (List ℕ)) → Bounds → (place index : ℕ)
    → Type 0
ReadsChildAt answer known bounds place index = IfSome known (λ bytes.
    let children = children_in (object_at bounds place bytes) in
    bounds.trailer ≤ length bytes → index < length children
    → MatchResult answer (λ number. number ≡ slice_index children index)
    (λ error. IsIo (kind_of (error_kind_of error))))

-- the offset of the reference to a child
abbrev pub reference_place : References → (index width : ℕ) → ℕ
reference_place references index width = references.place + references.start
    + reference_index references.kind references.count index * width

-- if the bytes are known, the references to the children of the collection lie where `references`
-- says
abbrev pub AreReferencesOf : (known : Option (List ℕ)) → Bounds → References → Type 0
AreReferencesOf known bounds references = IfSome known (λ bytes.
    let children = children_in (object_at bounds references.place bytes) in
    (length children ≡ references.count) × AreReferencesAt bounds.reference_width
    (bytes_at bounds references.place bytes) children references.kind references.start)
