use Rattle.std.proofs.Common.{◌≡◌, ◌+◌, sum_by}
use Rattle.std.specs.Slice.Iter.{chunks_rest, chunks_size}
use Rattle.plist_binwrite.specs.Forms.{units_begun}
use Rattle.plist_binwrite.proofs.text.count_units.Given as goal

-- the units that begin in the chunks so far are counted
abbrev pub invariant-loop-bytes : goal.invariant-loop-bytes
invariant-loop-bytes l = record {
  size : chunks_size l.bytes-iterator ≡ 64;
  counted : l.count + sum_by units_begun (chunks_rest l.bytes-iterator)
      ≡ sum_by units_begun l.text;
}
