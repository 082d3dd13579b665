use Rattle.std.proofs.Common.{◌≡◌, ◌+◌, ◌-◌, ◌^◌, arith, Result, Ok, Err, IfSome, ◌∙◌}
use Rattle.std.specs.Prelude.{⊤}
use Rattle.plist_base.specs.Faults.{Fault, MatchFault, error_kind_of, fault_of, kind_of}
use Rattle.plist_base.specs.Container.{Head, head_of}
use Rattle.plist_decode.specs.inner.Heads.{head_seen}
use Rattle.std.proofs.lemmas.Result.{IfOk-weaker, IfErr-weaker}
use Rattle.plist_decode.proofs.Heads.{refused_short, refused_io, refused_magic, refused_cut, HeadSaid, head_whole}
use Rattle.plist_decode.proofs.FaultOffsets.{err_within, from_reading, passed}
use Rattle.plist_decode.proofs.head.Head.read.Goals as goal
use Rattle.plist_decode.proofs.head.Head.read.Goals.{After-read_before}

pub returns-then-size-lt-MAGIC_SIZE-clause-refused
    : goal.returns-then-size-lt-MAGIC_SIZE-clause-refused
returns-then-size-lt-MAGIC_SIZE-clause-refused g c =
    refused_short _ _ _ c.with_byte_offset-then-size-lt-MAGIC_SIZE.ensures.fault c.in-Ok.ensures.length
    c.if-size-lt-MAGIC_SIZE.true

pub returns-in_err-has_magic-clause-refused : goal.returns-in_err-has_magic-clause-refused
returns-in_err-has_magic-clause-refused g c =
    rw (passed _ c.from_residual.ensures.1) (refused_io _ _ _
    c.in-Ok.ensures.unchanged c.in-Ok.ensures.length c.if-size-lt-MAGIC_SIZE.false _
    c.in_err-has_magic.ensures.refused)

pub returns-in_err-has_magic-clause-fault : goal.returns-in_err-has_magic-clause-fault
returns-in_err-has_magic-clause-fault g c =
    rw (passed _ c.from_residual.ensures.1) (from_reading _ 0 8 0 (2 ^ 64)
    c.in_err-has_magic.ensures.fault (omega arith) (omega arith))

pub returns-then-not-branch-clause-refused : goal.returns-then-not-branch-clause-refused
returns-then-not-branch-clause-refused g c =
    refused_magic _ _ _ c.in-Ok.ensures.unchanged c.in-Ok.ensures.length
    c.if-size-lt-MAGIC_SIZE.false _ c.in_ok-has_magic.ensures.value _
    c.with_byte_offset-then-not-branch.ensures.fault c.if-not-branch.true

pub returns-then-size-lt-TRAILER_SIZE-clause-refused
    : goal.returns-then-size-lt-TRAILER_SIZE-clause-refused
returns-then-size-lt-TRAILER_SIZE-clause-refused g c =
    refused_cut _ _ _ c.in-Ok.ensures.unchanged c.in-Ok.ensures.length
    c.if-size-lt-MAGIC_SIZE.false _ c.in_ok-has_magic.ensures.value _
    c.with_byte_offset-then-size-lt-TRAILER_SIZE.ensures.fault c.if-not-branch.false
    c.if-size-lt-TRAILER_SIZE.true

-- what is true of the head that the trailer determines is true of the file's head
said : (g : _) (c : After-read_before g) (P : Result Head Fault → Type 0)
    → IfSome (g.S.Source.known c.has_magic.new.source) (HeadSaid P (c.in-Ok.size - 32))
    → IfSome (g.S.Source.known c.args.source.now) (λ bytes. P (head_of bytes))
said g c P =
    head_whole _ _ _ c.in-Ok.ensures.unchanged c.in-Ok.ensures.length
    c.if-size-lt-MAGIC_SIZE.false _ c.in_ok-has_magic.ensures.value P _
    (c.in_ok-has_magic.ensures.unchanged ∙ c.in-Ok.ensures.unchanged) c.if-not-branch.false
    c.if-size-lt-TRAILER_SIZE.false

pub returns-clause-fault : goal.returns-clause-fault
returns-clause-fault g c =
    err_within c.read_before.result 0 (c.in-Ok.size - 32 + 32) 0 (2 ^ 64)
    c.read_before.ensures.fault (omega arith) (omega arith)

pub returns-clause-value : goal.returns-clause-value
returns-clause-value g c =
    IfOk-weaker c.read_before.result _ _ (λ head. said g (goal.at.returns-clause-value g
    c).After-read_before (λ answer. answer ≡ Ok (head_seen head))) c.read_before.ensures.value

pub returns-clause-refused : goal.returns-clause-refused
returns-clause-refused g c =
    IfErr-weaker c.read_before.result _ _ (λ e. said g (goal.at.returns-clause-refused g
    c).After-read_before (λ answer. MatchFault (kind_of (error_kind_of e)) ⊤ ⊤ (answer ≡ Err
    (fault_of e)))) c.read_before.ensures.refused
