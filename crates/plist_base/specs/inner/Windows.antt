-- The bytes that the windows of a file contain.
use Rattle.std.specs.Prelude.{◌≡◌, ℕ, ◌+◌, ◌*◌, ◌-◌, ◌%◌, ◌⊎◌, List, [], ◌++◌, take, drop, Some, slice_get}
use Rattle.plist_base.specs.declared.window.Header.{Header}
use Rattle.plist_base.specs.declared.windows.LongWindows.{LongWindows}
use Rattle.plist_base.specs.declared.windows.Windows.{Windows}

-- this window is the one to which the offset belongs
abbrev pub IsWindowOf : (size : ℕ) → List Header → (window place : ℕ) → Type 0
IsWindowOf size headers i place =
    (header : Header) × (slice_get headers i ≡ Some header) × (header.start ≡ place - place % size)

-- `lent` is empty, or consists of the bytes from this offset on in the window to which the offset
-- belongs, of which the last read returned `header.filled`; each window has 64 bytes beyond its size
abbrev pub LendsFrom : (size : ℕ) → List Header → (bytes : List ℕ) → (place : ℕ)
    → (lent : List ℕ) → Type 0
LendsFrom size headers bytes place lent =
    (lent ≡ []) ⊎ ((i : ℕ) × (header : Header) × (slice_get headers i ≡ Some header)
    × (header.start ≡ place - place % size)
    × (lent ≡ drop (place % size) (take header.filled (drop (i * (size + 64)) bytes))))

-- `lent` consists of bytes from this offset on, of a long window or of a short one
abbrev pub Lends : Windows → (place : ℕ) → (lent : List ℕ) → Type 0
Lends windows place lent =
    ((long : LongWindows) × (windows.long ≡ Some long)
    × LendsFrom 8192 long.headers.items long.bytes.items place lent)
    ⊎ LendsFrom 512 windows.headers windows.bytes place lent

-- the second list begins with the first
abbrev pub IsBeginning : {A : Type 0} → (front whole : List A) → Type 0
IsBeginning {A = A} front whole = (more : List A) × (whole ≡ front ++ more)

-- the old windows are kept, and new ones may follow them
abbrev pub KeepsWindows : (old new : LongWindows) → Type 0
KeepsWindows old new =
    IsBeginning old.headers.items new.headers.items × IsBeginning old.bytes.items new.bytes.items
