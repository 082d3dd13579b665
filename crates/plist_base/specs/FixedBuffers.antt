-- The room in a buffer of fixed size. Contracts see a buffer as the list of the bytes in it.
use Rattle.std.specs.Prelude.{ℕ, ◌^◌, ◌-◌, length}
use Rattle.plist_base.specs.declared.fixed_buffer.FixedBuffer.{FixedBuffer}

-- the most bytes that a buffer can contain
abbrev pub buffer_capacity : ℕ
buffer_capacity = 2 ^ 16

-- how many more bytes can be pushed to a buffer
abbrev pub room : FixedBuffer → ℕ
room buffer = buffer_capacity - length buffer
