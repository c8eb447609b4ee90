-- Document 01's numbers by name, and the bounds of records and lists. Assumes nothing.
use Rattle.std.specs.Prelude.{ℕ}
use Rattle.terms.specs.declared.Reason.{Reason}
use Rattle.terms.specs.declared.Reason.TheVariants.{ItemMissing, OtherTag, BadLength, PastEnd, LeftOver, BadInteger, NotAllowed, NotEs, BadCharacter, BadTime, BadIdentifier, BadBits, BadBoolean, NoBytes, NoItem, TooManyItems, TooLarge, UnrealTime, BadSheet, NoRoom}

-- ---- refusals (01, "Refusal numbers")

abbrev pub reason_number : Reason → ℕ
reason_number ItemMissing = 1
reason_number OtherTag = 2
reason_number BadLength = 3
reason_number PastEnd = 4
reason_number LeftOver = 5
reason_number BadInteger = 6
reason_number NotAllowed = 7
reason_number NotEs = 8
reason_number BadCharacter = 9
reason_number BadTime = 10
reason_number BadIdentifier = 11
reason_number BadBits = 12
reason_number BadBoolean = 13
reason_number NoBytes = 14
reason_number NoItem = 15
reason_number TooManyItems = 16
reason_number TooLarge = 17
reason_number UnrealTime = 18
reason_number BadSheet = 19
reason_number NoRoom = 20

-- ---- answers that are no refusal of the paper's (03, 42)

abbrev pub done : ℕ
done = 0

abbrev pub absent : ℕ
absent = 254

abbrev pub run_end : ℕ
run_end = 255

-- ---- bounds

-- "A record has at most 65,535 bytes, header included."
abbrev pub largest_record : ℕ
largest_record = 65535

-- "SEQUENCE of 1 to 64 items", "of 0 to 64 SEQUENCEs"
abbrev pub most_items : ℕ
most_items = 64
