-- Document 01, "Calls on a period": the numbers by which the refusal table names its rows, "Returned". By document 02's Changes 2
-- and 4 numbers 8 and 7 no longer occur; by its Change 7 there is a 10. `Refusal` is declared in src/lib.rt.
use Rattle.std.specs.Prelude.{ℕ, Option, Some, None}
use Rattle.methodology.specs.declared.Refusal.{Refusal}
use Rattle.methodology.specs.declared.Refusal.TheVariants.{BadOpening, OutOfTurn, BadDayNumber, BadLengths, BadHeading, BadAmount, BadLine, BadPresence}

abbrev pub row_number : Refusal → ℕ
-- "opening: n, k or a group outside its limit, or group list not n long"; "A list of first or last days that is not n long" (Change 7)
row_number BadOpening = 1
-- "opening while open; day or closing while not open"
row_number OutOfTurn = 2
-- "day number not 1 to 31, or not above the last accepted"
row_number BadDayNumber = 3
-- "accounts not 1 to 256, input lengths that disagree, or output not 5n (day) or 3n (closing) long"
row_number BadLengths = 4
-- "5, index of first bad account"
row_number (BadHeading index) = 5
-- "6, index of first bad account"
row_number (BadAmount index) = 6
-- "9, line": "text not as below"
row_number BadLine = 9
-- "A first day above the last, or either outside 1 to 31, is answered by 10 with the first such member's number" (Change 7)
row_number (BadPresence member) = 10

-- the index "in rows 5 and 6", and in its place the member's number in row 10
abbrev pub row_index : Refusal → Option ℕ
row_index BadOpening = None
row_index OutOfTurn = None
row_index BadDayNumber = None
row_index BadLengths = None
row_index (BadHeading index) = Some index
row_index (BadAmount index) = Some index
row_index BadLine = None
row_index (BadPresence member) = Some member
