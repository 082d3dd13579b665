use Rattle.std.proofs.Common.{◌≡◌, nat_lt, take}
use Rattle.std.specs.List.{list_all}
use Rattle.plist_buffer.proofs.wide.has_ascii_greatest.Given as goal

-- all bytes so far are ASCII if and only if the greatest is
abbrev pub invariant-loop-byte : goal.invariant-loop-byte
invariant-loop-byte l = nat_lt l.greatest 128
    ≡ list_all (λ byte. nat_lt byte 128) (take l.byte-index l.byte-items)
