-- The bytes that are put into a sink: some are written to its writer, and the rest is pending.
use Rattle.std.specs.Prelude.{◌≡◌, ℕ, ◌+◌, List, [], ◌++◌, length, Bool, true, false, Option}
use Rattle.std.specs.Option.{is_none}
use Rattle.std.specs.Io.KnownBytes.{Appends}
use Rattle.plist_base.specs.declared.sink.Progress.{Progress}
use Rattle.plist_base.specs.declared.sink.Sink.{Sink}
use Rattle.plist_base.specs.Outcomes.{IsSizeOrNone}

-- the pending bytes, which were put and aren't written yet
abbrev pub pending : {W : Type 0} → Sink W → List ℕ
pending sink = sink.buffer.now

-- no write has failed
abbrev pub is_open : {W : Type 0} → Sink W → Bool
is_open sink = is_none sink.progress.failure

-- both sinks borrow the same writer and the same buffer
pub record IsSameSink {W : Type 0} (old new : Sink W) : Type 0 where
  pub writer : new.writer.ghost_name ≡ old.writer.ghost_name
  pub buffer : new.buffer.ghost_name ≡ old.buffer.ghost_name

-- `size` bytes were put since the sink was created: some are written, and the rest is pending
pub record HasPut {W : Type 0} (sink : Sink W) (size : ℕ) : Type 0 where
  pub sent : ℕ
  pub counted : IsSizeOrNone sink.progress.sent sent
  pub whole : size ≡ sent + length (pending sink)

module _ {W : Type 0} (contents : W → Option (List ℕ)) where
  -- A call puts bytes: `sent` is written, and `rest` is pending while the sink is open. Once it
  -- isn't, the writer isn't called any more.
  pub record Puts (old : Sink W) (bytes : List ℕ) (new : Sink W) : Type 0 where
    pub same : IsSameSink old new
    pub sent : List ℕ
    pub written : Appends (contents old.writer.now) (contents new.writer.now) sent
    pub rest : List ℕ
    pub all : pending old ++ bytes ≡ sent ++ rest
    pub kept : is_open new ≡ true → pending new ≡ rest
    pub counted : is_open new ≡ true → (size : ℕ) → HasPut old size
        → HasPut new (size + length bytes)
    pub was_open : is_open new ≡ true → is_open old ≡ true
    pub unasked : is_open old ≡ false → new.writer.now ≡ old.writer.now

  -- a call writes bytes past the buffer: all of them, or `sent` before a write fails, or none after
  -- that
  pub record Advances (old : Progress × W) (bytes : List ℕ) (new : Progress × W) : Type 0 where
    pub sent : List ℕ
    pub written : Appends (contents old.1) (contents new.1) sent
    pub rest : List ℕ
    pub all : bytes ≡ sent ++ rest
    pub whole : is_none new.0.failure ≡ true → rest ≡ []
    pub counted : is_none new.0.failure ≡ true → (size : ℕ) → IsSizeOrNone old.0.sent size
        → IsSizeOrNone new.0.sent (size + length bytes)
    pub was_open : is_none new.0.failure ≡ true → is_none old.0.failure ≡ true
    pub unasked : is_none old.0.failure ≡ false → new.1 ≡ old.1
