use Rattle.std.proofs.Common.{◌+◌, ◌*◌, arith, rules}
use Rattle.plist_decode.specs.inner.Heads.{trailer_seen}
use Rattle.plist_decode.proofs.FaultOffsets.{counts_fault, from_reading, from_within, passed}
use Rattle.plist_decode.proofs.Heads.{fault_checking, fault_placing, fault_reading, head_placed}
use Rattle.plist_decode.proofs.NumberRuns.{numbers_whole}
use Rattle.plist_decode.proofs.head.Head.read_before.Goals as goal

pub returns-in_err-t-clause-refused : goal.returns-in_err-t-clause-refused
returns-in_err-t-clause-refused g c =
    rw (passed _ c.from_residual.ensures.1) (fault_reading _ _ _ c.in_err-t.ensures.refused)

pub returns-in_err-t-clause-fault : goal.returns-in_err-t-clause-fault
returns-in_err-t-clause-fault g c =
    rw (passed _ c.from_residual.ensures.1) (from_reading _ c.args.trailer 32 0 (c.args.trailer
    + 32) c.in_err-t.ensures.fault (omega arith) (omega arith))

pub returns-in_err-check_trailer-clause-refused : goal.returns-in_err-check_trailer-clause-refused
returns-in_err-check_trailer-clause-refused g c =
    rw (passed _ c.from_residual-in_err-check_trailer.ensures.1) (fault_checking _ c.args.trailer
    (trailer_seen c.in_ok-t.t) _ c.in_ok-t.ensures.value c.in_err-check_trailer.ensures.refused)

pub returns-in_err-check_trailer-clause-fault : goal.returns-in_err-check_trailer-clause-fault
returns-in_err-check_trailer-clause-fault g c =
    rw (passed _ c.from_residual-in_err-check_trailer.ensures.1) (from_within _ c.args.trailer
    c.args.trailer 0 (c.args.trailer + 32)
    c.in_err-check_trailer.ensures.fault (omega arith) (omega arith))

pub returns-in_err-check_trailer-clause-failures : goal.returns-in_err-check_trailer-clause-failures
returns-in_err-check_trailer-clause-failures g c =
    rw (passed _ c.from_residual-in_err-check_trailer.ensures.1) (counts_fault (Unit {0})
    c.in_err-check_trailer.field-0.0 _ _ c.in_err-check_trailer.ensures.kinds
    c.in_ok-t.ensures.failures)

pub returns-in_err-places-clause-refused : goal.returns-in_err-places-clause-refused
returns-in_err-places-clause-refused g c =
    rw (passed _ c.from_residual-in_err-places.ensures.1) (fault_placing _ _ c.args.trailer
    c.in_ok-t.t.table (c.in_ok-t.t.count * c.in_ok-t.t.offset_width) _ c.in_ok-t.ensures.unchanged
    c.in_ok-check_trailer.ensures.table c.in_err-places.ensures.refused)

pub returns-in_err-places-clause-fault : goal.returns-in_err-places-clause-fault
returns-in_err-places-clause-fault g c =
    rw (passed _ c.from_residual-in_err-places.ensures.1) (from_within _ c.in_ok-t.t.table _ 0
    (c.args.trailer + 32) c.in_err-places.ensures.fault (omega arith) (omega (
      arith,
      c.in_ok-check_trailer.ensures.table,
    )))

pub returns-clause-value : goal.returns-clause-value
returns-clause-value g c =
    head_placed _ _ c.args.trailer (trailer_seen c.in_ok-t.t) c.in_ok-places.places.items
    c.in_ok-t.ensures.unchanged c.in_ok-check_trailer.ensures.table c.in_ok-t.ensures.value
    c.in_ok-check_trailer.ensures.value (numbers_whole _ c.in_ok-places.places.items c.in_ok-t.t.table
    c.in_ok-t.t.offset_width _ c.in_ok-t.t.count c.in_ok-check_trailer.ensures.offset_width.0
    (search rules) c.in_ok-places.ensures.items)
