-- Small files, and an ASCII text.
use Rattle.std.specs.Prelude.{ℕ, List, codes}
use Rattle.plist_base.proofs.WorkedFiles.Files.{file, trailer}

-- the root is the second object, an array
unfoldable pub root_is_second : List ℕ
root_is_second = file "09a20000 0809" (trailer 1 1 2 1 12)

-- an entry of the offset table has five bytes
unfoldable pub five_byte_offsets : List ℕ
five_byte_offsets = file "09 0000000008" (trailer 5 1 1 0 9)

-- the integer -1
unfoldable pub minus_one : List ℕ
minus_one = file "13ffffffffffffffff 08" (trailer 1 1 1 0 17)

-- an array, at offset 8, whose child doesn't exist
unfoldable pub missing_child : List ℕ
missing_child = file "a109 08" (trailer 1 1 1 0 10)

-- a dictionary with the integer 5 at the key `true`
unfoldable pub five_at_true : List ℕ
five_at_true = file "d10102091005 080b0c" (trailer 1 1 3 0 14)

-- an array that contains an array of `true`
unfoldable pub nested_arrays : List ℕ
nested_arrays = file "a101a10209 080a0c" (trailer 1 1 3 0 13)

-- an empty array, and an object to which nothing refers
unfoldable pub empty_array : List ℕ
empty_array = file "a009 0809" (trailer 1 1 2 0 10)

-- the real 1.5, of four bytes
unfoldable pub four_byte_real : List ℕ
four_byte_real = file "223fc00000 08" (trailer 1 1 1 0 13)

-- a block comment that begins with `/*/` and contains another star, and then the start of an array
unfoldable pub comment_and_array : List ℕ
comment_and_array = codes "/*/ * */("
