-- The numbers of kinds and faults, as `bindings/c/sizhetom.h` lists them.
use Rattle.std.specs.Prelude.{ℕ}
use Rattle.plist_base.specs.declared.error.EventKind.{EventKind}
use Rattle.plist_base.specs.declared.error.EventKind.TheVariants as event_kind
use Rattle.plist_base.specs.declared.limits.Limit.{Limit}
use Rattle.plist_base.specs.declared.limits.Limit.TheVariants as limit
use Rattle.plist_base.specs.Faults as fault
use Rattle.plist_base.specs.Faults.{FaultKind}

-- the number of an event's kind
abbrev pub kind_number : EventKind → ℕ
kind_number event_kind.StartArray = 1
kind_number event_kind.StartDictionary = 2
kind_number event_kind.EndCollection = 3
kind_number event_kind.Boolean = 4
kind_number event_kind.Data = 5
kind_number event_kind.Date = 6
kind_number event_kind.Integer = 7
kind_number event_kind.Real = 8
kind_number event_kind.String = 9
kind_number event_kind.Uid = 10
kind_number event_kind.ValueOrStartCollection = 11
kind_number event_kind.DictionaryKeyOrEndCollection = 12

-- the number of a limit
abbrev pub limit_number : Limit → ℕ
limit_number limit.Depth = 0
limit_number limit.Items = 1

-- the number of a kind of fault
abbrev pub fault_number : FaultKind → ℕ
fault_number fault.UnexpectedEof = 1
fault_number fault.InvalidMagic = 2
fault_number fault.InvalidTrailerObjectOffsetSize = 3
fault_number fault.InvalidTrailerObjectReferenceSize = 4
fault_number fault.ObjectOffsetTooLarge = 5
fault_number fault.ObjectReferenceTooLarge = 6
fault_number fault.RecursiveObject = 7
fault_number fault.NullObjectUnimplemented = 8
fault_number fault.FillObjectUnimplemented = 9
fault_number (fault.UnknownObjectType marker) = 10
fault_number fault.IntegerOutOfRange = 11
fault_number fault.OverflowOrNanDate = 12
fault_number fault.FractionalDate = 13
fault_number fault.InvalidUtf8String = 14
fault_number fault.InvalidUtf16String = 15
fault_number fault.UnclosedString = 16
fault_number fault.IncompleteComment = 17
fault_number fault.InvalidUtf8AsciiStream = 18
fault_number fault.InvalidOctalString = 19
fault_number fault.InvalidDateString = 20
fault_number (fault.UnexpectedEventType expected found) = 21
fault_number (fault.ExpectedEndOfEventStream found) = 22
fault_number fault.UnexpectedEndOfEventStream = 23
fault_number fault.Io = 24
fault_number fault.OutOfMemory = 25
fault_number fault.WriterFailed = 26
fault_number fault.PlistTooLarge = 27
fault_number fault.XmlUnsupported = 28
fault_number fault.YearOutOfRange = 29
fault_number (fault.LimitReached limit) = 30

-- the marker, the limit, or the kind of the event that was found, or 0
abbrev pub fault_detail : FaultKind → ℕ
fault_detail (fault.UnknownObjectType marker) = marker
fault_detail (fault.UnexpectedEventType expected found) = kind_number found
fault_detail (fault.ExpectedEndOfEventStream found) = kind_number found
fault_detail (fault.LimitReached limit) = limit_number limit
fault_detail kind = 0

-- the kind of the event that was expected, or 0
abbrev pub fault_expected : FaultKind → ℕ
fault_expected (fault.UnexpectedEventType expected found) = kind_number expected
fault_expected kind = 0
