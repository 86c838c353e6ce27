-- Worked texts with the reports that they must give: document 01's printed month, "with these lines added" as document 02's Change 1 has it,
-- texts refused by every row that a text can meet, and months with groups, clients, several days, days without losses, members that join or
-- leave, or no day. The reports were worked out from the documents by recalculations of others; the theorem computes them.
use mathlib.Core.Path.{◌≡◌, refl}
use mathlib.Core.List.{List, [], ◌∷◌, map}
use Rattle.std.specs.Prelude.{Some}
use Prim.Native.String.{String}
use lib.IntN.{pos}
use Rattle.methodology.specs.Text.{goes_on, bad, account, bytes, same, onto, split, value_from, number_of, below0, above0, signed_of, kind_of, also, every_field, bad_bytes, numbers_after, account_by, account_of, digits, decimal, printed, rows, column_sum, totals, day_lines, fund_lines, read_period, opened, read_member, read_day, sized, with_member, with_account, read_account, read_line, closed, at_end, followed_by, report_from, report_of}
use Rattle.methodology.specs.Account.{DayInput}
use Rattle.methodology.specs.Register.{Register, start}
use Rattle.methodology.proofs.Samples.{computed}

-- what a report is made of, opened
unfoldable reads : Unit {0}
unfolding bytes same onto split value_from number_of below0 above0 signed_of kind_of also every_field bad_bytes numbers_after account_by account_of digits printed rows column_sum totals day_lines fund_lines read_period opened with_member read_member read_day sized with_account read_account read_line closed at_end followed_by report_from report_of
reads = tt

-- a text with the report that it must give
infix 20 ◌gives◌
pub record Worked : Type 0 where
  pub text : String
  pub report : String

abbrev pub ◌gives◌ : String → String → Worked
text gives report = record { text = text; report = report }

-- What stands from here on is written by tests/tables.py, from tests/texts.py.
pub texts : List Worked
texts =
    -- the printed month
    ("period\t2\t1\nmember\t1\t0\t1\t31\nmember\t2\t0\t1\t31\nday\t3\t2\nacct\t1\t0\tH\t390000000\t0\t0\t0\nacct\t2\t0\tH\t10000000\t0\t0\t0\nend\n" gives "day\t3\t400000000\t390000000\ndaily\t1\t390000000\t975000000000000\t38025000000\t41827500000\t83655000000\ndaily\t2\t10000000\t25000000000000\t975000000\t1072500000\t2145000000\ntotal\t400000000\t1000000000000000\t39000000000\t42900000000\t85800000000\nfund\t1\t390000000\t468275000\ncontribution\t1\t418275000\t418275000\t836550000\ncontribution\t2\t10725000\t50000000\t100000000\n")
    -- empty input
    ∷ ("" gives "refused\t9\t1\n")
    -- one lf
    ∷ ("\n" gives "refused\t9\t1\n")
    -- cut after period
    ∷ ("period\t2\t1\n" gives "refused\t9\t2\n")
    -- cut after member 1
    ∷ ("period\t2\t1\nmember\t1\t0\t1\t31\n" gives "refused\t9\t3\n")
    -- cut after members
    ∷ ("period\t2\t1\nmember\t1\t0\t1\t31\nmember\t2\t0\t1\t31\n" gives "refused\t9\t4\n")
    -- cut after day
    ∷ ("period\t2\t1\nmember\t1\t0\t1\t31\nmember\t2\t0\t1\t31\nday\t3\t2\n" gives "refused\t9\t5\n")
    -- cut after acct 1
    ∷ ("period\t2\t1\nmember\t1\t0\t1\t31\nmember\t2\t0\t1\t31\nday\t3\t2\nacct\t1\t0\tH\t390000000\t0\t0\t0\n" gives "refused\t9\t6\n")
    -- no end
    ∷ ("period\t2\t1\nmember\t1\t0\t1\t31\nmember\t2\t0\t1\t31\nday\t3\t2\nacct\t1\t0\tH\t390000000\t0\t0\t0\nacct\t2\t0\tH\t10000000\t0\t0\t0\n" gives "day\t3\t400000000\t390000000\ndaily\t1\t390000000\t975000000000000\t38025000000\t41827500000\t83655000000\ndaily\t2\t10000000\t25000000000000\t975000000\t1072500000\t2145000000\ntotal\t400000000\t1000000000000000\t39000000000\t42900000000\t85800000000\nrefused\t9\t7\n")
    -- member line missing
    ∷ ("period\t2\t1\nmember\t1\t0\t1\t31\nday\t3\t2\nacct\t1\t0\tH\t390000000\t0\t0\t0\nacct\t2\t0\tH\t10000000\t0\t0\t0\nend\n" gives "refused\t9\t3\n")
    -- acct line missing
    ∷ ("period\t2\t1\nmember\t1\t0\t1\t31\nmember\t2\t0\t1\t31\nday\t3\t2\nacct\t2\t0\tH\t10000000\t0\t0\t0\nend\n" gives "refused\t9\t6\n")
    -- end where an acct is due
    ∷ ("period\t2\t1\nmember\t1\t0\t1\t31\nmember\t2\t0\t1\t31\nday\t3\t2\nacct\t1\t0\tH\t390000000\t0\t0\t0\nend\n" gives "refused\t9\t6\n")
    -- end without lf
    ∷ ("period\t2\t1\nmember\t1\t0\t1\t31\nmember\t2\t0\t1\t31\nday\t3\t2\nacct\t1\t0\tH\t390000000\t0\t0\t0\nacct\t2\t0\tH\t10000000\t0\t0\t0\nend" gives "day\t3\t400000000\t390000000\ndaily\t1\t390000000\t975000000000000\t38025000000\t41827500000\t83655000000\ndaily\t2\t10000000\t25000000000000\t975000000\t1072500000\t2145000000\ntotal\t400000000\t1000000000000000\t39000000000\t42900000000\t85800000000\nrefused\t9\t7\n")
    -- cut in a line
    ∷ ("period\t2\t1\nmember\t1\t0\t1\t31\nmember\t2\t0\t1\t31\nday\t3\t2\nacct\t1\t0" gives "refused\t9\t5\n")
    -- lf after end
    ∷ ("period\t2\t1\nmember\t1\t0\t1\t31\nmember\t2\t0\t1\t31\nday\t3\t2\nacct\t1\t0\tH\t390000000\t0\t0\t0\nacct\t2\t0\tH\t10000000\t0\t0\t0\nend\n\n" gives "day\t3\t400000000\t390000000\ndaily\t1\t390000000\t975000000000000\t38025000000\t41827500000\t83655000000\ndaily\t2\t10000000\t25000000000000\t975000000\t1072500000\t2145000000\ntotal\t400000000\t1000000000000000\t39000000000\t42900000000\t85800000000\nrefused\t9\t8\n")
    -- byte after end
    ∷ ("period\t2\t1\nmember\t1\t0\t1\t31\nmember\t2\t0\t1\t31\nday\t3\t2\nacct\t1\t0\tH\t390000000\t0\t0\t0\nacct\t2\t0\tH\t10000000\t0\t0\t0\nend\nx" gives "day\t3\t400000000\t390000000\ndaily\t1\t390000000\t975000000000000\t38025000000\t41827500000\t83655000000\ndaily\t2\t10000000\t25000000000000\t975000000\t1072500000\t2145000000\ntotal\t400000000\t1000000000000000\t39000000000\t42900000000\t85800000000\nrefused\t9\t8\n")
    -- second end
    ∷ ("period\t2\t1\nmember\t1\t0\t1\t31\nmember\t2\t0\t1\t31\nday\t3\t2\nacct\t1\t0\tH\t390000000\t0\t0\t0\nacct\t2\t0\tH\t10000000\t0\t0\t0\nend\nend\n" gives "day\t3\t400000000\t390000000\ndaily\t1\t390000000\t975000000000000\t38025000000\t41827500000\t83655000000\ndaily\t2\t10000000\t25000000000000\t975000000\t1072500000\t2145000000\ntotal\t400000000\t1000000000000000\t39000000000\t42900000000\t85800000000\nrefused\t9\t8\n")
    -- lf after end, and no day
    ∷ ("period\t1\t1\nmember\t1\t0\t1\t31\nend\n\n" gives "refused\t9\t4\n")
    -- byte after end, and no day
    ∷ ("period\t1\t1\nmember\t1\t0\t1\t31\nend\nx" gives "refused\t9\t4\n")
    -- end without lf, and no day
    ∷ ("period\t1\t1\nmember\t1\t0\t1\t31\nend" gives "refused\t9\t3\n")
    -- no day
    ∷ ("period\t1\t1\nmember\t1\t0\t1\t31\nend\n" gives "fund\t0\t0\t50000000\ncontribution\t1\t0\t50000000\t100000000\n")
    -- one day, of Max EUL 0
    ∷ ("period\t1\t2\nmember\t1\t0\t1\t31\nday\t3\t2\nacct\t1\t0\tH\t100\t110\t0\t0\t100\nacct\t1\t1\tU\t20\t0\t0\t20\t0\nend\n" gives "day\t3\t20\t0\ndaily\t1\t20\t1000000000000000\t0\t0\t0\ntotal\t20\t1000000000000000\t0\t0\t0\nfund\t1\t0\t50000000\ncontribution\t1\t0\t50000000\t100000000\n")
    -- second period
    ∷ ("period\t2\t1\nmember\t1\t0\t1\t31\nmember\t2\t0\t1\t31\nday\t3\t2\nacct\t1\t0\tH\t390000000\t0\t0\t0\nacct\t2\t0\tH\t10000000\t0\t0\t0\nperiod\t2\t1\n" gives "day\t3\t400000000\t390000000\ndaily\t1\t390000000\t975000000000000\t38025000000\t41827500000\t83655000000\ndaily\t2\t10000000\t25000000000000\t975000000\t1072500000\t2145000000\ntotal\t400000000\t1000000000000000\t39000000000\t42900000000\t85800000000\nrefused\t9\t7\n")
    -- empty line
    ∷ ("period\t2\t1\nmember\t1\t0\t1\t31\nmember\t2\t0\t1\t31\n\nday\t3\t2\nacct\t1\t0\tH\t390000000\t0\t0\t0\nacct\t2\t0\tH\t10000000\t0\t0\t0\nend\n" gives "refused\t9\t4\n")
    -- end with a field
    ∷ ("period\t2\t1\nmember\t1\t0\t1\t31\nmember\t2\t0\t1\t31\nday\t3\t2\nacct\t1\t0\tH\t390000000\t0\t0\t0\nacct\t2\t0\tH\t10000000\t0\t0\t0\nend\t\n" gives "day\t3\t400000000\t390000000\ndaily\t1\t390000000\t975000000000000\t38025000000\t41827500000\t83655000000\ndaily\t2\t10000000\t25000000000000\t975000000\t1072500000\t2145000000\ntotal\t400000000\t1000000000000000\t39000000000\t42900000000\t85800000000\nrefused\t9\t7\n")
    -- word in capitals
    ∷ ("period\t2\t1\nmember\t1\t0\t1\t31\nmember\t2\t0\t1\t31\nday\t3\t2\nacct\t1\t0\tH\t390000000\t0\t0\t0\nacct\t2\t0\tH\t10000000\t0\t0\t0\nEND\n" gives "day\t3\t400000000\t390000000\ndaily\t1\t390000000\t975000000000000\t38025000000\t41827500000\t83655000000\ndaily\t2\t10000000\t25000000000000\t975000000\t1072500000\t2145000000\ntotal\t400000000\t1000000000000000\t39000000000\t42900000000\t85800000000\nrefused\t9\t7\n")
    -- word with more
    ∷ ("period\t2\t1\nmember\t1\t0\t1\t31\nmember\t2\t0\t1\t31\ndays\t3\t2\nacct\t1\t0\tH\t390000000\t0\t0\t0\nacct\t2\t0\tH\t10000000\t0\t0\t0\nend\n" gives "refused\t9\t4\n")
    -- n 0
    ∷ ("period\t0\t1\nmember\t1\t0\t1\t31\nmember\t2\t0\t1\t31\nday\t3\t2\nacct\t1\t0\tH\t390000000\t0\t0\t0\nacct\t2\t0\tH\t10000000\t0\t0\t0\nend\n" gives "refused\t1\t1\n")
    -- n 33
    ∷ ("period\t33\t1\nmember\t1\t0\t1\t31\nmember\t2\t0\t1\t31\nday\t3\t2\nacct\t1\t0\tH\t390000000\t0\t0\t0\nacct\t2\t0\tH\t10000000\t0\t0\t0\nend\n" gives "refused\t1\t1\n")
    -- n 33 and nothing under it
    ∷ ("period\t33\t1\n" gives "refused\t1\t1\n")
    -- k 0 before a bad member line
    ∷ ("period\t2\t0\nx\nmember\t2\t0\t1\t31\nday\t3\t2\nacct\t1\t0\tH\t390000000\t0\t0\t0\nacct\t2\t0\tH\t10000000\t0\t0\t0\nend\n" gives "refused\t1\t1\n")
    -- k 17
    ∷ ("period\t2\t17\nmember\t1\t0\t1\t31\nmember\t2\t0\t1\t31\nday\t3\t2\nacct\t1\t0\tH\t390000000\t0\t0\t0\nacct\t2\t0\tH\t10000000\t0\t0\t0\nend\n" gives "refused\t1\t1\n")
    -- n of 13 digits
    ∷ ("period\t9999999999999\t1\nmember\t1\t0\t1\t31\nmember\t2\t0\t1\t31\nday\t3\t2\nacct\t1\t0\tH\t390000000\t0\t0\t0\nacct\t2\t0\tH\t10000000\t0\t0\t0\nend\n" gives "refused\t1\t1\n")
    -- n 33 in a bad line
    ∷ ("period\t33\tx\nmember\t1\t0\t1\t31\nmember\t2\t0\t1\t31\nday\t3\t2\nacct\t1\t0\tH\t390000000\t0\t0\t0\nacct\t2\t0\tH\t10000000\t0\t0\t0\nend\n" gives "refused\t9\t1\n")
    -- n 33 in a line too long
    ∷ ("period\t33\t1\t1\nmember\t1\t0\t1\t31\nmember\t2\t0\t1\t31\nday\t3\t2\nacct\t1\t0\tH\t390000000\t0\t0\t0\nacct\t2\t0\tH\t10000000\t0\t0\t0\nend\n" gives "refused\t9\t1\n")
    -- n -1
    ∷ ("period\t-1\t1\nmember\t1\t0\t1\t31\nmember\t2\t0\t1\t31\nday\t3\t2\nacct\t1\t0\tH\t390000000\t0\t0\t0\nacct\t2\t0\tH\t10000000\t0\t0\t0\nend\n" gives "refused\t9\t1\n")
    -- group 33 at the period line
    ∷ ("period\t2\t1\nmember\t1\t0\t1\t31\nmember\t2\t33\t1\t31\nday\t3\t2\nacct\t1\t0\tH\t390000000\t0\t0\t0\nacct\t2\t0\tH\t10000000\t0\t0\t0\nend\n" gives "refused\t1\t1\n")
    -- 9 before group 33
    ∷ ("period\t2\t1\nmember\t1\t33\t1\t31\nmember\t2\tx\t1\t31\nday\t3\t2\nacct\t1\t0\tH\t390000000\t0\t0\t0\nacct\t2\t0\tH\t10000000\t0\t0\t0\nend\n" gives "refused\t9\t3\n")
    -- group of 13 digits
    ∷ ("period\t2\t1\nmember\t1\t0\t1\t31\nmember\t2\t9999999999999\t1\t31\nday\t3\t2\nacct\t1\t0\tH\t390000000\t0\t0\t0\nacct\t2\t0\tH\t10000000\t0\t0\t0\nend\n" gives "refused\t1\t1\n")
    -- group 33 before a bad day line
    ∷ ("period\t2\t1\nmember\t1\t0\t1\t31\nmember\t2\t33\t1\t31\nx\nacct\t1\t0\tH\t390000000\t0\t0\t0\nacct\t2\t0\tH\t10000000\t0\t0\t0\nend\n" gives "refused\t1\t1\n")
    -- group 32
    ∷ ("period\t2\t1\nmember\t1\t0\t1\t31\nmember\t2\t32\t1\t31\nday\t3\t2\nacct\t1\t0\tH\t390000000\t0\t0\t0\nacct\t2\t0\tH\t10000000\t0\t0\t0\nend\n" gives "day\t3\t400000000\t390000000\ndaily\t1\t390000000\t975000000000000\t38025000000\t41827500000\t83655000000\ndaily\t2\t10000000\t25000000000000\t975000000\t1072500000\t2145000000\ntotal\t400000000\t1000000000000000\t39000000000\t42900000000\t85800000000\nfund\t1\t390000000\t468275000\ncontribution\t1\t418275000\t418275000\t836550000\ncontribution\t2\t10725000\t50000000\t100000000\n")
    -- member number wrong
    ∷ ("period\t2\t1\nmember\t1\t0\t1\t31\nmember\t3\t0\t1\t31\nday\t3\t2\nacct\t1\t0\tH\t390000000\t0\t0\t0\nacct\t2\t0\tH\t10000000\t0\t0\t0\nend\n" gives "refused\t9\t3\n")
    -- member number twice
    ∷ ("period\t2\t1\nmember\t1\t0\t1\t31\nmember\t1\t0\t1\t31\nday\t3\t2\nacct\t1\t0\tH\t390000000\t0\t0\t0\nacct\t2\t0\tH\t10000000\t0\t0\t0\nend\n" gives "refused\t9\t3\n")
    -- day 0
    ∷ ("period\t2\t1\nmember\t1\t0\t1\t31\nmember\t2\t0\t1\t31\nday\t0\t2\nacct\t1\t0\tH\t390000000\t0\t0\t0\nacct\t2\t0\tH\t10000000\t0\t0\t0\nend\n" gives "refused\t3\t4\n")
    -- day 32
    ∷ ("period\t2\t1\nmember\t1\t0\t1\t31\nmember\t2\t0\t1\t31\nday\t32\t2\nacct\t1\t0\tH\t390000000\t0\t0\t0\nacct\t2\t0\tH\t10000000\t0\t0\t0\nend\n" gives "refused\t3\t4\n")
    -- day of 13 digits
    ∷ ("period\t2\t1\nmember\t1\t0\t1\t31\nmember\t2\t0\t1\t31\nday\t9999999999999\t2\nacct\t1\t0\tH\t390000000\t0\t0\t0\nacct\t2\t0\tH\t10000000\t0\t0\t0\nend\n" gives "refused\t3\t4\n")
    -- 9 before 3
    ∷ ("period\t2\t1\nmember\t1\t0\t1\t31\nmember\t2\t0\t1\t31\nday\t0\t2\nacct\t1\t0\tH\t390000000\t0\t0\t0\nacct\t2\nend\n" gives "refused\t9\t6\n")
    -- missing line before 3
    ∷ ("period\t2\t1\nmember\t1\t0\t1\t31\nmember\t2\t0\t1\t31\nday\t0\t2\nacct\t1\t0\tH\t390000000\t0\t0\t0\n" gives "refused\t9\t6\n")
    -- 3 before 5
    ∷ ("period\t2\t1\nmember\t1\t0\t1\t31\nmember\t2\t0\t1\t31\nday\t0\t2\nacct\t2\t0\tH\t10000000\t0\t0\t0\nacct\t2\t0\tH\t10000000\t0\t0\t0\nend\n" gives "refused\t3\t4\n")
    -- day again
    ∷ ("period\t2\t1\nmember\t1\t0\t1\t31\nmember\t2\t0\t1\t31\nday\t3\t2\nacct\t1\t0\tH\t390000000\t0\t0\t0\nacct\t2\t0\tH\t10000000\t0\t0\t0\nday\t3\t2\nacct\t1\t0\tH\t390000000\t0\t0\t0\nacct\t2\t0\tH\t10000000\t0\t0\t0\nend\n" gives "day\t3\t400000000\t390000000\ndaily\t1\t390000000\t975000000000000\t38025000000\t41827500000\t83655000000\ndaily\t2\t10000000\t25000000000000\t975000000\t1072500000\t2145000000\ntotal\t400000000\t1000000000000000\t39000000000\t42900000000\t85800000000\nrefused\t3\t7\n")
    -- count 0
    ∷ ("period\t2\t1\nmember\t1\t0\t1\t31\nmember\t2\t0\t1\t31\nday\t3\t0\nacct\t1\t0\tH\t390000000\t0\t0\t0\nacct\t2\t0\tH\t10000000\t0\t0\t0\nend\n" gives "refused\t4\t4\n")
    -- count 257
    ∷ ("period\t2\t1\nmember\t1\t0\t1\t31\nmember\t2\t0\t1\t31\nday\t3\t257\nacct\t1\t0\tH\t390000000\t0\t0\t0\nacct\t2\t0\tH\t10000000\t0\t0\t0\nend\n" gives "refused\t4\t4\n")
    -- count 0 before day 0
    ∷ ("period\t2\t1\nmember\t1\t0\t1\t31\nmember\t2\t0\t1\t31\nday\t0\t0\nacct\t1\t0\tH\t390000000\t0\t0\t0\nacct\t2\t0\tH\t10000000\t0\t0\t0\nend\n" gives "refused\t4\t4\n")
    -- count 257 before 9
    ∷ ("period\t2\t1\nmember\t1\t0\t1\t31\nmember\t2\t0\t1\t31\nday\t3\t257\nx\nacct\t2\t0\tH\t10000000\t0\t0\t0\nend\n" gives "refused\t4\t4\n")
    -- count 257 at the end of input
    ∷ ("period\t2\t1\nmember\t1\t0\t1\t31\nmember\t2\t0\t1\t31\nday\t3\t257\n" gives "refused\t4\t4\n")
    -- count of 13 digits
    ∷ ("period\t2\t1\nmember\t1\t0\t1\t31\nmember\t2\t0\t1\t31\nday\t3\t9999999999999\nacct\t1\t0\tH\t390000000\t0\t0\t0\nacct\t2\t0\tH\t10000000\t0\t0\t0\nend\n" gives "refused\t4\t4\n")
    -- count of 14 digits
    ∷ ("period\t2\t1\nmember\t1\t0\t1\t31\nmember\t2\t0\t1\t31\nday\t3\t10000000000000\nacct\t1\t0\tH\t390000000\t0\t0\t0\nacct\t2\t0\tH\t10000000\t0\t0\t0\nend\n" gives "refused\t9\t4\n")
    -- count 257 in a bad line
    ∷ ("period\t2\t1\nmember\t1\t0\t1\t31\nmember\t2\t0\t1\t31\nday\t3\t257\t0\nacct\t1\t0\tH\t390000000\t0\t0\t0\nacct\t2\t0\tH\t10000000\t0\t0\t0\nend\n" gives "refused\t9\t4\n")
    -- 5 at the account's line
    ∷ ("period\t2\t1\nmember\t1\t0\t1\t31\nmember\t2\t0\t1\t31\nday\t3\t2\nacct\t1\t0\tH\t390000000\t0\t0\t0\nacct\t3\t0\tH\t1\t0\t0\t0\nend\n" gives "refused\t5\t6\n")
    -- member of 13 digits
    ∷ ("period\t2\t1\nmember\t1\t0\t1\t31\nmember\t2\t0\t1\t31\nday\t3\t2\nacct\t1\t0\tH\t390000000\t0\t0\t0\nacct\t9999999999999\t0\tH\t1\t0\t0\t0\nend\n" gives "refused\t5\t6\n")
    -- member 2^32 + 2
    ∷ ("period\t2\t1\nmember\t1\t0\t1\t31\nmember\t2\t0\t1\t31\nday\t3\t2\nacct\t1\t0\tH\t390000000\t0\t0\t0\nacct\t4294967298\t0\tH\t1\t0\t0\t0\nend\n" gives "refused\t5\t6\n")
    -- number 65536
    ∷ ("period\t2\t1\nmember\t1\t0\t1\t31\nmember\t2\t0\t1\t31\nday\t3\t2\nacct\t1\t0\tH\t390000000\t0\t0\t0\nacct\t1\t65536\tU\t1\t0\t0\t0\nend\n" gives "refused\t5\t6\n")
    -- number of 13 digits
    ∷ ("period\t2\t1\nmember\t1\t0\t1\t31\nmember\t2\t0\t1\t31\nday\t3\t2\nacct\t1\t0\tH\t390000000\t0\t0\t0\nacct\t1\t9999999999999\tU\t1\t0\t0\t0\nend\n" gives "refused\t5\t6\n")
    -- member 0
    ∷ ("period\t2\t1\nmember\t1\t0\t1\t31\nmember\t2\t0\t1\t31\nday\t3\t2\nacct\t0\t0\tH\t1\t0\t0\t0\nacct\t2\t0\tH\t10000000\t0\t0\t0\nend\n" gives "refused\t5\t5\n")
    -- last member missing
    ∷ ("period\t2\t1\nmember\t1\t0\t1\t31\nmember\t2\t0\t1\t31\nday\t3\t1\nacct\t1\t0\tH\t390000000\t0\t0\t0\nend\n" gives "refused\t5\t6\n")
    -- last member missing and no line after it
    ∷ ("period\t2\t1\nmember\t1\t0\t1\t31\nmember\t2\t0\t1\t31\nday\t3\t1\nacct\t1\t0\tH\t390000000\t0\t0\t0\n" gives "refused\t5\t6\n")
    -- last member missing and a bad line after it
    ∷ ("period\t2\t1\nmember\t1\t0\t1\t31\nmember\t2\t0\t1\t31\nday\t3\t1\nacct\t1\t0\tH\t390000000\t0\t0\t0\nx\nend\n" gives "refused\t5\t6\n")
    -- surplus acct line
    ∷ ("period\t2\t1\nmember\t1\t0\t1\t31\nmember\t2\t0\t1\t31\nday\t3\t2\nacct\t1\t0\tH\t390000000\t0\t0\t0\nacct\t2\t0\tH\t10000000\t0\t0\t0\nacct\t2\t1\tU\t1\t0\t0\t0\nend\n" gives "day\t3\t400000000\t390000000\ndaily\t1\t390000000\t975000000000000\t38025000000\t41827500000\t83655000000\ndaily\t2\t10000000\t25000000000000\t975000000\t1072500000\t2145000000\ntotal\t400000000\t1000000000000000\t39000000000\t42900000000\t85800000000\nrefused\t9\t7\n")
    -- surplus member line
    ∷ ("period\t2\t1\nmember\t1\t0\t1\t31\nmember\t2\t0\t1\t31\nmember\t3\t0\t1\t31\nday\t3\t2\nacct\t1\t0\tH\t390000000\t0\t0\t0\nacct\t2\t0\tH\t10000000\t0\t0\t0\nend\n" gives "refused\t9\t4\n")
    -- group 33 before a surplus member line
    ∷ ("period\t2\t1\nmember\t1\t0\t1\t31\nmember\t2\t33\t1\t31\nmember\t3\t0\t1\t31\nday\t3\t2\nacct\t1\t0\tH\t390000000\t0\t0\t0\nacct\t2\t0\tH\t10000000\t0\t0\t0\nend\n" gives "refused\t1\t1\n")
    -- 5 before a surplus acct line
    ∷ ("period\t2\t1\nmember\t1\t0\t1\t31\nmember\t2\t0\t1\t31\nday\t3\t2\nacct\t1\t0\tH\t390000000\t0\t0\t0\nacct\t1\t0\tH\t390000000\t0\t0\t0\nacct\t2\t0\tH\t10000000\t0\t0\t0\nend\n" gives "refused\t5\t6\n")
    -- 5 before 6
    ∷ ("period\t2\t1\nmember\t1\t0\t1\t31\nmember\t2\t0\t1\t31\nday\t3\t2\nacct\t1\t0\tH\t1000000000001\t0\t0\t0\nacct\t3\t0\tH\t1\t0\t0\t0\nend\n" gives "refused\t5\t6\n")
    -- base outside its limit
    ∷ ("period\t2\t1\nmember\t1\t0\t1\t31\nmember\t2\t0\t1\t31\nday\t3\t2\nacct\t1\t0\tH\t390000000\t0\t0\t0\nacct\t2\t0\tH\t1000000000001\t0\t0\t0\nend\n" gives "refused\t6\t6\n")
    -- greatest number for a base
    ∷ ("period\t2\t1\nmember\t1\t0\t1\t31\nmember\t2\t0\t1\t31\nday\t3\t2\nacct\t1\t0\tH\t390000000\t0\t0\t0\nacct\t2\t0\tH\t9999999999999\t0\t0\t0\nend\n" gives "refused\t6\t6\n")
    -- least number for a stress
    ∷ ("period\t2\t1\nmember\t1\t0\t1\t31\nmember\t2\t0\t1\t31\nday\t3\t2\nacct\t1\t0\tH\t390000000\t0\t0\t0\nacct\t2\t0\tH\t0\t0\t0\t-9999999999999\nend\n" gives "refused\t6\t6\n")
    -- base and stress at their limits
    ∷ ("period\t2\t1\nmember\t1\t0\t1\t31\nmember\t2\t0\t1\t31\nday\t3\t2\nacct\t1\t0\tH\t390000000\t0\t0\t0\nacct\t2\t0\tH\t1000000000000\t0\t0\t-1000000000000\nend\n" gives "day\t3\t2000390000000\t2000000000000\ndaily\t1\t390000000\t194961982414\t38992396483\t42891636131\t85783272262\ndaily\t2\t2000000000000\t999805038017587\t199961007603517\t219957108363869\t439914216727738\ntotal\t2000390000000\t1000000000000001\t200000000000000\t220000000000000\t440000000000000\nfund\t1\t2000000000000\t2200000000001\ncontribution\t1\t428916362\t428916362\t857832724\ncontribution\t2\t2199571083639\t2199571083639\t4399142167278\n")
    -- margin outside its limit
    ∷ ("period\t2\t1\nmember\t1\t0\t1\t31\nmember\t2\t0\t1\t31\nday\t3\t2\nacct\t1\t0\tH\t0\t1000000000001\t0\t0\nacct\t2\t0\tH\t10000000\t0\t0\t0\nend\n" gives "refused\t6\t5\n")
    -- 6 for the first account, not the first slice
    ∷ ("period\t2\t1\nmember\t1\t0\t1\t31\nmember\t2\t0\t1\t31\nday\t3\t2\nacct\t1\t0\tH\t0\t1000000000001\t0\t0\nacct\t2\t0\tH\t1000000000001\t0\t0\t0\nend\n" gives "refused\t6\t5\n")
    -- extra above margin
    ∷ ("period\t2\t1\nmember\t1\t0\t1\t31\nmember\t2\t0\t1\t31\nday\t3\t2\nacct\t1\t0\tH\t390000000\t0\t0\t0\nacct\t2\t0\tH\t1\t5\t6\t0\nend\n" gives "refused\t6\t6\n")
    -- 9 before 6
    ∷ ("period\t2\t1\nmember\t1\t0\t1\t31\nmember\t2\t0\t1\t31\nday\t3\t2\nacct\t1\t0\tH\t0\t0\t1\t0\nacct\t2\t0\tH\t0\t-1\t0\t0\nend\n" gives "refused\t9\t6\n")
    -- a day without losses, alone
    ∷ ("period\t2\t1\nmember\t1\t0\t1\t31\nmember\t2\t0\t1\t31\nday\t3\t2\nacct\t1\t0\tH\t0\t0\t0\t0\nacct\t2\t0\tH\t0\t0\t0\t0\nend\n" gives "day\t3\t0\t0\ndaily\t1\t0\t0\t0\t0\t0\ndaily\t2\t0\t0\t0\t0\t0\ntotal\t0\t0\t0\t0\t0\nfund\t0\t0\t100000000\ncontribution\t1\t0\t50000000\t100000000\ncontribution\t2\t0\t50000000\t100000000\n")
    -- x for a number
    ∷ ("period\t2\t1\nmember\t1\t0\t1\t31\nmember\t2\t0\t1\t31\nday\t3\t2\nacct\t1\t0\tH\tx\t0\t0\t0\nacct\t2\t0\tH\t10000000\t0\t0\t0\nend\n" gives "refused\t9\t5\n")
    -- -0
    ∷ ("period\t2\t1\nmember\t1\t0\t1\t31\nmember\t2\t0\t1\t31\nday\t3\t2\nacct\t1\t0\tH\t-0\t0\t0\t0\nacct\t2\t0\tH\t10000000\t0\t0\t0\nend\n" gives "refused\t9\t5\n")
    -- -01
    ∷ ("period\t2\t1\nmember\t1\t0\t1\t31\nmember\t2\t0\t1\t31\nday\t3\t2\nacct\t1\t0\tH\t-01\t0\t0\t0\nacct\t2\t0\tH\t10000000\t0\t0\t0\nend\n" gives "refused\t9\t5\n")
    -- 00
    ∷ ("period\t2\t1\nmember\t1\t0\t1\t31\nmember\t2\t0\t1\t31\nday\t3\t2\nacct\t1\t0\tH\t00\t0\t0\t0\nacct\t2\t0\tH\t10000000\t0\t0\t0\nend\n" gives "refused\t9\t5\n")
    -- +1
    ∷ ("period\t2\t1\nmember\t1\t0\t1\t31\nmember\t2\t0\t1\t31\nday\t3\t2\nacct\t1\t0\tH\t+1\t0\t0\t0\nacct\t2\t0\tH\t10000000\t0\t0\t0\nend\n" gives "refused\t9\t5\n")
    -- 14 digits
    ∷ ("period\t2\t1\nmember\t1\t0\t1\t31\nmember\t2\t0\t1\t31\nday\t3\t2\nacct\t1\t0\tH\t10000000000000\t0\t0\t0\nacct\t2\t0\tH\t10000000\t0\t0\t0\nend\n" gives "refused\t9\t5\n")
    -- minus and 14 digits
    ∷ ("period\t2\t1\nmember\t1\t0\t1\t31\nmember\t2\t0\t1\t31\nday\t3\t2\nacct\t1\t0\tH\t-10000000000000\t0\t0\t0\nacct\t2\t0\tH\t10000000\t0\t0\t0\nend\n" gives "refused\t9\t5\n")
    -- minus in margin
    ∷ ("period\t2\t1\nmember\t1\t0\t1\t31\nmember\t2\t0\t1\t31\nday\t3\t2\nacct\t1\t0\tH\t1\t-1\t0\t0\nacct\t2\t0\tH\t10000000\t0\t0\t0\nend\n" gives "refused\t9\t5\n")
    -- minus in extra
    ∷ ("period\t2\t1\nmember\t1\t0\t1\t31\nmember\t2\t0\t1\t31\nday\t3\t2\nacct\t1\t0\tH\t1\t1\t-1\t0\nacct\t2\t0\tH\t10000000\t0\t0\t0\nend\n" gives "refused\t9\t5\n")
    -- empty field
    ∷ ("period\t2\t1\nmember\t1\t0\t1\t31\nmember\t2\t0\t1\t31\nday\t3\t2\nacct\t1\t0\tH\t\t0\t0\t0\nacct\t2\t0\tH\t10000000\t0\t0\t0\nend\n" gives "refused\t9\t5\n")
    -- a stress too few
    ∷ ("period\t2\t1\nmember\t1\t0\t1\t31\nmember\t2\t0\t1\t31\nday\t3\t2\nacct\t1\t0\tH\t1\t0\t0\nacct\t2\t0\tH\t10000000\t0\t0\t0\nend\n" gives "refused\t9\t5\n")
    -- a stress too many
    ∷ ("period\t2\t1\nmember\t1\t0\t1\t31\nmember\t2\t0\t1\t31\nday\t3\t2\nacct\t1\t0\tH\t1\t0\t0\t0\t0\nacct\t2\t0\tH\t10000000\t0\t0\t0\nend\n" gives "refused\t9\t5\n")
    -- last tab
    ∷ ("period\t2\t1\nmember\t1\t0\t1\t31\nmember\t2\t0\t1\t31\nday\t3\t2\nacct\t1\t0\tH\t390000000\t0\t0\t0\t\nacct\t2\t0\tH\t10000000\t0\t0\t0\nend\n" gives "refused\t9\t5\n")
    -- cr after end
    ∷ ("period\t2\t1\nmember\t1\t0\t1\t31\nmember\t2\t0\t1\t31\nday\t3\t2\nacct\t1\t0\tH\t390000000\t0\t0\t0\nacct\t2\t0\tH\t10000000\t0\t0\t0\nend\r\n" gives "day\t3\t400000000\t390000000\ndaily\t1\t390000000\t975000000000000\t38025000000\t41827500000\t83655000000\ndaily\t2\t10000000\t25000000000000\t975000000\t1072500000\t2145000000\ntotal\t400000000\t1000000000000000\t39000000000\t42900000000\t85800000000\nrefused\t9\t7\n")
    -- cr after a number
    ∷ ("period\t2\t1\nmember\t1\t0\t1\t31\nmember\t2\t0\t1\t31\nday\t3\t2\nacct\t1\t0\tH\t390000000\t0\t0\t0\r\nacct\t2\t0\tH\t10000000\t0\t0\t0\nend\n" gives "refused\t9\t5\n")
    -- not ascii
    ∷ ("period\t2\t1\nmember\t1\t0\t1\t31\nmember\t2\t0\t1\t31\nday\t3\t2\nacct\t1\t0\tÈ\t1\t0\t0\t0\nacct\t2\t0\tH\t10000000\t0\t0\t0\nend\n" gives "refused\t9\t5\n")
    -- first of two bad lines
    ∷ ("period\t2\t1\nmember\t1\t0\t1\t31\nmember\t2\t0\t1\t31\nday\t3\t2\nacct\t1\t0\tH\tx\t0\t0\t0\nacct\t1\t0\tH\tx\t0\t0\t0\nend\n" gives "refused\t9\t5\n")
    -- 512 bytes
    ∷ ("period\t2\t1\nmember\t1\t0\t1\t31\nmember\t2\t0\t1\t31\nday\t3\t2\nacct\t1\t0\tHHHHHHHHHHHHHHHHHHHHHHHHHHHHHHHHHHHHHHHHHHHHHHHHHHHHHHHHHHHHHHHHHHHHHHHHHHHHHHHHHHHHHHHHHHHHHHHHHHHHHHHHHHHHHHHHHHHHHHHHHHHHHHHHHHHHHHHHHHHHHHHHHHHHHHHHHHHHHHHHHHHHHHHHHHHHHHHHHHHHHHHHHHHHHHHHHHHHHHHHHHHHHHHHHHHHHHHHHHHHHHHHHHHHHHHHHHHHHHHHHHHHHHHHHHHHHHHHHHHHHHHHHHHHHHHHHHHHHHHHHHHHHHHHHHHHHHHHHHHHHHHHHHHHHHHHHHHHHHHHHHHHHHHHHHHHHHHHHHHHHHHHHHHHHHHHHHHHHHHHHHHHHHHHHHHHHHHHHHHHHHHHHHHHHHHHHHHHHHHHHHHHHHHHHHHHHHHHHHHHHHHHHHHHHHHHHHHHHHHHHHHHHHHHHHHHHHHHHHHHHHHHHHHHHHHHHHHHHHHHHHHHHHHHHHHHHHH\t1\t0\t0\t0\nacct\t2\t0\tH\t10000000\t0\t0\t0\nend\n" gives "refused\t5\t5\n")
    -- 513 bytes
    ∷ ("period\t2\t1\nmember\t1\t0\t1\t31\nmember\t2\t0\t1\t31\nday\t3\t2\nacct\t1\t0\tHHHHHHHHHHHHHHHHHHHHHHHHHHHHHHHHHHHHHHHHHHHHHHHHHHHHHHHHHHHHHHHHHHHHHHHHHHHHHHHHHHHHHHHHHHHHHHHHHHHHHHHHHHHHHHHHHHHHHHHHHHHHHHHHHHHHHHHHHHHHHHHHHHHHHHHHHHHHHHHHHHHHHHHHHHHHHHHHHHHHHHHHHHHHHHHHHHHHHHHHHHHHHHHHHHHHHHHHHHHHHHHHHHHHHHHHHHHHHHHHHHHHHHHHHHHHHHHHHHHHHHHHHHHHHHHHHHHHHHHHHHHHHHHHHHHHHHHHHHHHHHHHHHHHHHHHHHHHHHHHHHHHHHHHHHHHHHHHHHHHHHHHHHHHHHHHHHHHHHHHHHHHHHHHHHHHHHHHHHHHHHHHHHHHHHHHHHHHHHHHHHHHHHHHHHHHHHHHHHHHHHHHHHHHHHHHHHHHHHHHHHHHHHHHHHHHHHHHHHHHHHHHHHHHHHHHHHHHHHHHHHHHHHHHHHHHHHHH\t1\t0\t0\t0\nacct\t2\t0\tH\t10000000\t0\t0\t0\nend\n" gives "refused\t9\t5\n")
    -- a kind that is no letter of a kind
    ∷ ("period\t1\t1\nmember\t1\t0\t1\t31\nday\t3\t2\nacct\t1\t0\tH\t10\t0\t0\t0\nacct\t1\t1\tX\t10\t0\t0\t0\nend\n" gives "refused\t5\t5\n")
    -- a kind of byte 127
    ∷ ("period\t1\t1\nmember\t1\t0\t1\t31\nday\t3\t2\nacct\t1\t0\tH\t10\t0\t0\t0\nacct\t1\t1\t\u{7f}\t10\t0\t0\t0\nend\n" gives "refused\t5\t5\n")
    -- a kind of byte 128
    ∷ ("period\t1\t1\nmember\t1\t0\t1\t31\nday\t3\t2\nacct\t1\t0\tH\t10\t0\t0\t0\nacct\t1\t1\t\u{80}\t10\t0\t0\t0\nend\n" gives "refused\t9\t5\n")
    -- n and k at their limits, cut
    ∷ ("period\t32\t16\n" gives "refused\t9\t2\n")
    -- count at its limit, cut
    ∷ ("period\t1\t1\nmember\t1\t0\t1\t31\nday\t3\t256\n" gives "refused\t9\t4\n")
    -- a first word that goes on
    ∷ ("period\t1\t1\nmember\t1\t0\t1\t31\nday\t3\t1\nacctx\t1\t0\tH\t10\t0\t0\t0\nend\n" gives "refused\t9\t4\n")
    -- M on the first of three days
    ∷ ("period\t2\t1\nmember\t1\t0\t1\t31\nmember\t2\t0\t1\t31\nday\t1\t2\nacct\t1\t0\tH\t400000000\t0\t0\t0\nacct\t2\t0\tH\t200000000\t0\t0\t0\nday\t2\t2\nacct\t1\t0\tH\t100000000\t0\t0\t0\nacct\t2\t0\tH\t300000000\t0\t0\t0\nday\t3\t2\nacct\t1\t0\tH\t70000000\t0\t0\t0\nacct\t2\t0\tH\t30000000\t0\t0\t0\nend\n" gives "day\t1\t600000000\t400000000\ndaily\t1\t400000000\t666666666666667\t26666666667\t29333333333\t58666666667\ndaily\t2\t200000000\t333333333333334\t13333333333\t14666666667\t29333333333\ntotal\t600000000\t1000000000000001\t40000000000\t44000000000\t88000000000\nday\t2\t400000000\t400000000\ndaily\t1\t100000000\t250000000000000\t10000000000\t11000000000\t22000000000\ndaily\t2\t300000000\t750000000000000\t30000000000\t33000000000\t66000000000\ntotal\t400000000\t1000000000000000\t40000000000\t44000000000\t88000000000\nday\t3\t100000000\t400000000\ndaily\t1\t70000000\t700000000000000\t28000000000\t30800000000\t61600000000\ndaily\t2\t30000000\t300000000000000\t12000000000\t13200000000\t26400000000\ntotal\t100000000\t1000000000000000\t40000000000\t44000000000\t88000000000\nfund\t3\t400000000\t440000001\ncontribution\t1\t237111112\t237111112\t474222224\ncontribution\t2\t202888889\t202888889\t405777778\n")
    -- M on the second of three days
    ∷ ("period\t2\t1\nmember\t1\t0\t1\t31\nmember\t2\t0\t1\t31\nday\t1\t2\nacct\t1\t0\tH\t100000000\t0\t0\t0\nacct\t2\t0\tH\t300000000\t0\t0\t0\nday\t2\t2\nacct\t1\t0\tH\t400000000\t0\t0\t0\nacct\t2\t0\tH\t200000000\t0\t0\t0\nday\t3\t2\nacct\t1\t0\tH\t70000000\t0\t0\t0\nacct\t2\t0\tH\t30000000\t0\t0\t0\nend\n" gives "day\t1\t400000000\t300000000\ndaily\t1\t100000000\t250000000000000\t7500000000\t8250000000\t16500000000\ndaily\t2\t300000000\t750000000000000\t22500000000\t24750000000\t49500000000\ntotal\t400000000\t1000000000000000\t30000000000\t33000000000\t66000000000\nday\t2\t600000000\t400000000\ndaily\t1\t400000000\t666666666666667\t26666666667\t29333333333\t58666666667\ndaily\t2\t200000000\t333333333333334\t13333333333\t14666666667\t29333333333\ntotal\t600000000\t1000000000000001\t40000000000\t44000000000\t88000000000\nday\t3\t100000000\t400000000\ndaily\t1\t70000000\t700000000000000\t28000000000\t30800000000\t61600000000\ndaily\t2\t30000000\t300000000000000\t12000000000\t13200000000\t26400000000\ntotal\t100000000\t1000000000000000\t40000000000\t44000000000\t88000000000\nfund\t3\t400000000\t440000001\ncontribution\t1\t237111112\t237111112\t474222224\ncontribution\t2\t202888889\t202888889\t405777778\n")
    -- M on the last of three days
    ∷ ("period\t2\t1\nmember\t1\t0\t1\t31\nmember\t2\t0\t1\t31\nday\t1\t2\nacct\t1\t0\tH\t70000000\t0\t0\t0\nacct\t2\t0\tH\t30000000\t0\t0\t0\nday\t2\t2\nacct\t1\t0\tH\t100000000\t0\t0\t0\nacct\t2\t0\tH\t300000000\t0\t0\t0\nday\t3\t2\nacct\t1\t0\tH\t400000000\t0\t0\t0\nacct\t2\t0\tH\t200000000\t0\t0\t0\nend\n" gives "day\t1\t100000000\t70000000\ndaily\t1\t70000000\t700000000000000\t4900000000\t5390000000\t10780000000\ndaily\t2\t30000000\t300000000000000\t2100000000\t2310000000\t4620000000\ntotal\t100000000\t1000000000000000\t7000000000\t7700000000\t15400000000\nday\t2\t400000000\t300000000\ndaily\t1\t100000000\t250000000000000\t7500000000\t8250000000\t16500000000\ndaily\t2\t300000000\t750000000000000\t22500000000\t24750000000\t49500000000\ntotal\t400000000\t1000000000000000\t30000000000\t33000000000\t66000000000\nday\t3\t600000000\t400000000\ndaily\t1\t400000000\t666666666666667\t26666666667\t29333333333\t58666666667\ndaily\t2\t200000000\t333333333333334\t13333333333\t14666666667\t29333333333\ntotal\t600000000\t1000000000000001\t40000000000\t44000000000\t88000000000\nfund\t3\t400000000\t440000001\ncontribution\t1\t237111112\t237111112\t474222224\ncontribution\t2\t202888889\t202888889\t405777778\n")
    -- Max EULs of its own that fall and rise again, one of them 0
    ∷ ("period\t2\t2\nmember\t1\t0\t1\t31\nmember\t2\t0\t1\t31\nday\t2\t3\nacct\t1\t0\tH\t0\t0\t0\t0\t0\nacct\t1\t1\tR\t0\t0\t0\t0\t0\nacct\t2\t0\tH\t0\t0\t0\t-50\t-30\nday\t3\t3\nacct\t1\t0\tH\t0\t0\t0\t0\t0\nacct\t1\t1\tR\t0\t0\t0\t0\t0\nacct\t2\t0\tH\t0\t0\t0\t-80\t-20\nday\t4\t3\nacct\t1\t0\tH\t0\t7\t0\t-7\t0\nacct\t1\t1\tR\t0\t0\t0\t0\t-7\nacct\t2\t0\tH\t0\t0\t0\t0\t0\nday\t7\t3\nacct\t1\t0\tH\t0\t0\t0\t0\t0\nacct\t1\t1\tR\t0\t0\t0\t0\t0\nacct\t2\t0\tH\t0\t0\t0\t-10\t-60\nday\t9\t3\nacct\t1\t0\tH\t0\t5\t0\t-5\t0\nacct\t1\t1\tR\t0\t0\t0\t0\t-5\nacct\t2\t0\tH\t0\t0\t0\t-3\t-2\nday\t30\t3\nacct\t1\t0\tH\t0\t0\t0\t0\t0\nacct\t1\t1\tR\t0\t0\t0\t0\t0\nacct\t2\t0\tH\t0\t0\t0\t-90\t0\nday\t31\t3\nacct\t1\t0\tH\t0\t0\t0\t0\t0\nacct\t1\t1\tR\t0\t0\t0\t0\t0\nacct\t2\t0\tH\t0\t0\t0\t-1\t-2\nend\n" gives "day\t2\t50\t50\ndaily\t1\t0\t0\t0\t0\t0\ndaily\t2\t50\t1000000000000000\t5000\t5500\t11000\ntotal\t50\t1000000000000000\t5000\t5500\t11000\nday\t3\t80\t80\ndaily\t1\t0\t0\t0\t0\t0\ndaily\t2\t80\t1000000000000000\t8000\t8800\t17600\ntotal\t80\t1000000000000000\t8000\t8800\t17600\nday\t4\t7\t80\ndaily\t1\t7\t1000000000000000\t8000\t8800\t17600\ndaily\t2\t0\t0\t0\t0\t0\ntotal\t7\t1000000000000000\t8000\t8800\t17600\nday\t7\t60\t80\ndaily\t1\t0\t0\t0\t0\t0\ndaily\t2\t60\t1000000000000000\t8000\t8800\t17600\ntotal\t60\t1000000000000000\t8000\t8800\t17600\nday\t9\t8\t80\ndaily\t1\t5\t625000000000000\t5000\t5500\t11000\ndaily\t2\t3\t375000000000000\t3000\t3300\t6600\ntotal\t8\t1000000000000000\t8000\t8800\t17600\nday\t30\t90\t90\ndaily\t1\t0\t0\t0\t0\t0\ndaily\t2\t90\t1000000000000000\t9000\t9900\t19800\ntotal\t90\t1000000000000000\t9000\t9900\t19800\nday\t31\t2\t90\ndaily\t1\t0\t0\t0\t0\t0\ndaily\t2\t2\t1000000000000000\t9000\t9900\t19800\ntotal\t2\t1000000000000000\t9000\t9900\t19800\nfund\t7\t90\t100000000\ncontribution\t1\t23\t50000000\t100000000\ncontribution\t2\t77\t50000000\t100000000\n")
    -- a house account of kind h
    ∷ ("period\t1\t1\nmember\t1\t0\t1\t31\nday\t3\t1\nacct\t1\t0\th\t10\t0\t0\t0\nend\n" gives "refused\t5\t4\n")
    -- a house account of kind empty
    ∷ ("period\t1\t1\nmember\t1\t0\t1\t31\nday\t3\t1\nacct\t1\t0\t\t10\t0\t0\t0\nend\n" gives "refused\t5\t4\n")
    -- a house account of kind HH
    ∷ ("period\t1\t1\nmember\t1\t0\t1\t31\nday\t3\t1\nacct\t1\t0\tHH\t10\t0\t0\t0\nend\n" gives "refused\t5\t4\n")
    -- a house account of kind H and CR
    ∷ ("period\t1\t1\nmember\t1\t0\t1\t31\nday\t3\t1\nacct\t1\t0\tH\r\t10\t0\t0\t0\nend\n" gives "refused\t5\t4\n")
    -- a house account of kind 0
    ∷ ("period\t1\t1\nmember\t1\t0\t1\t31\nday\t3\t1\nacct\t1\t0\t0\t10\t0\t0\t0\nend\n" gives "refused\t5\t4\n")
    -- a house account of kind a blank and H
    ∷ ("period\t1\t1\nmember\t1\t0\t1\t31\nday\t3\t1\nacct\t1\t0\t H\t10\t0\t0\t0\nend\n" gives "refused\t5\t4\n")
    -- a house account of kind 9
    ∷ ("period\t1\t1\nmember\t1\t0\t1\t31\nday\t3\t1\nacct\t1\t0\t9\t10\t0\t0\t0\nend\n" gives "refused\t5\t4\n")
    -- a client of kind r
    ∷ ("period\t1\t1\nmember\t1\t0\t1\t31\nday\t3\t2\nacct\t1\t0\tH\t10\t0\t0\t0\nacct\t1\t1\tr\t10\t0\t0\t0\nend\n" gives "refused\t5\t5\n")
    -- a client of kind a
    ∷ ("period\t1\t1\nmember\t1\t0\t1\t31\nday\t3\t2\nacct\t1\t0\tH\t10\t0\t0\t0\nacct\t1\t1\ta\t10\t0\t0\t0\nend\n" gives "refused\t5\t5\n")
    -- a client of kind u
    ∷ ("period\t1\t1\nmember\t1\t0\t1\t31\nday\t3\t2\nacct\t1\t0\tH\t10\t0\t0\t0\nacct\t1\t1\tu\t10\t0\t0\t0\nend\n" gives "refused\t5\t5\n")
    -- a client of kind empty
    ∷ ("period\t1\t1\nmember\t1\t0\t1\t31\nday\t3\t2\nacct\t1\t0\tH\t10\t0\t0\t0\nacct\t1\t1\t\t10\t0\t0\t0\nend\n" gives "refused\t5\t5\n")
    -- a client of kind RR
    ∷ ("period\t1\t1\nmember\t1\t0\t1\t31\nday\t3\t2\nacct\t1\t0\tH\t10\t0\t0\t0\nacct\t1\t1\tRR\t10\t0\t0\t0\nend\n" gives "refused\t5\t5\n")
    -- a client of kind 1
    ∷ ("period\t1\t1\nmember\t1\t0\t1\t31\nday\t3\t2\nacct\t1\t0\tH\t10\t0\t0\t0\nacct\t1\t1\t1\t10\t0\t0\t0\nend\n" gives "refused\t5\t5\n")
    -- a client of kind 2
    ∷ ("period\t1\t1\nmember\t1\t0\t1\t31\nday\t3\t2\nacct\t1\t0\tH\t10\t0\t0\t0\nacct\t1\t1\t2\t10\t0\t0\t0\nend\n" gives "refused\t5\t5\n")
    -- a client of kind 3
    ∷ ("period\t1\t1\nmember\t1\t0\t1\t31\nday\t3\t2\nacct\t1\t0\tH\t10\t0\t0\t0\nacct\t1\t1\t3\t10\t0\t0\t0\nend\n" gives "refused\t5\t5\n")
    -- a client of kind 9
    ∷ ("period\t1\t1\nmember\t1\t0\t1\t31\nday\t3\t2\nacct\t1\t0\tH\t10\t0\t0\t0\nacct\t1\t1\t9\t10\t0\t0\t0\nend\n" gives "refused\t5\t5\n")
    -- a client of kind R and CR
    ∷ ("period\t1\t1\nmember\t1\t0\t1\t31\nday\t3\t2\nacct\t1\t0\tH\t10\t0\t0\t0\nacct\t1\t1\tR\r\t10\t0\t0\t0\nend\n" gives "refused\t5\t5\n")
    -- every kind
    ∷ ("period\t1\t1\nmember\t1\t0\t1\t31\nday\t3\t6\nacct\t1\t0\tH\t0\t40\t0\t0\nacct\t1\t1\tR\t60\t0\t0\t0\nacct\t1\t2\tR\t50\t0\t0\t0\nacct\t1\t3\tR\t30\t0\t0\t0\nacct\t1\t4\tA\t7\t0\t0\t0\nacct\t1\t5\tU\t20\t0\t0\t0\nend\n" gives "day\t3\t97\t97\ndaily\t1\t97\t1000000000000000\t9700\t10670\t21340\ntotal\t97\t1000000000000000\t9700\t10670\t21340\nfund\t1\t97\t50000000\ncontribution\t1\t107\t50000000\t100000000\n")
    -- colon for a digit
    ∷ ("period\t1\t1\nmember\t1\t0\t1\t31\nday\t3\t1\nacct\t1\t0\tH\t:\t0\t0\t0\nend\n" gives "refused\t9\t4\n")
    -- slash for a digit
    ∷ ("period\t1\t1\nmember\t1\t0\t1\t31\nday\t3\t1\nacct\t1\t0\tH\t/\t0\t0\t0\nend\n" gives "refused\t9\t4\n")
    -- 1 and colon for a digit
    ∷ ("period\t1\t1\nmember\t1\t0\t1\t31\nday\t3\t1\nacct\t1\t0\tH\t1:\t0\t0\t0\nend\n" gives "refused\t9\t4\n")
    -- 1 and slash for a digit
    ∷ ("period\t1\t1\nmember\t1\t0\t1\t31\nday\t3\t1\nacct\t1\t0\tH\t1/\t0\t0\t0\nend\n" gives "refused\t9\t4\n")
    -- 1x0 for a number
    ∷ ("period\t1\t1\nmember\t1\t0\t1\t31\nday\t3\t1\nacct\t1\t0\tH\t1x0\t0\t0\t0\nend\n" gives "refused\t9\t4\n")
    -- 10x for a number
    ∷ ("period\t1\t1\nmember\t1\t0\t1\t31\nday\t3\t1\nacct\t1\t0\tH\t10x\t0\t0\t0\nend\n" gives "refused\t9\t4\n")
    -- 100000000000x for a number
    ∷ ("period\t1\t1\nmember\t1\t0\t1\t31\nday\t3\t1\nacct\t1\t0\tH\t100000000000x\t0\t0\t0\nend\n" gives "refused\t9\t4\n")
    -- scenario 16 alone, group 32, day 31
    ∷ ("period\t2\t16\nmember\t1\t32\t1\t31\nmember\t2\t32\t1\t31\nday\t31\t2\nacct\t1\t0\tH\t5\t0\t0\t5\t5\t5\t5\t5\t5\t5\t5\t5\t5\t5\t5\t5\t5\t5\t2\nacct\t2\t0\tH\t9\t0\t0\t9\t9\t9\t9\t9\t9\t9\t9\t9\t9\t9\t9\t9\t9\t9\t5\nend\n" gives "day\t31\t7\t7\ndaily\t1\t3\t428571428571429\t300\t330\t660\ndaily\t2\t4\t571428571428572\t400\t440\t880\ntotal\t7\t1000000000000001\t700\t770\t1540\nfund\t1\t7\t100000000\ncontribution\t1\t4\t50000000\t100000000\ncontribution\t2\t5\t50000000\t100000000\n")
    -- 32 members, each with a loss of its own
    ∷ ("period\t32\t1\nmember\t1\t0\t1\t31\nmember\t2\t0\t1\t31\nmember\t3\t0\t1\t31\nmember\t4\t0\t1\t31\nmember\t5\t0\t1\t31\nmember\t6\t0\t1\t31\nmember\t7\t0\t1\t31\nmember\t8\t0\t1\t31\nmember\t9\t0\t1\t31\nmember\t10\t0\t1\t31\nmember\t11\t0\t1\t31\nmember\t12\t0\t1\t31\nmember\t13\t0\t1\t31\nmember\t14\t0\t1\t31\nmember\t15\t0\t1\t31\nmember\t16\t0\t1\t31\nmember\t17\t0\t1\t31\nmember\t18\t0\t1\t31\nmember\t19\t0\t1\t31\nmember\t20\t0\t1\t31\nmember\t21\t0\t1\t31\nmember\t22\t0\t1\t31\nmember\t23\t0\t1\t31\nmember\t24\t0\t1\t31\nmember\t25\t0\t1\t31\nmember\t26\t0\t1\t31\nmember\t27\t0\t1\t31\nmember\t28\t0\t1\t31\nmember\t29\t0\t1\t31\nmember\t30\t0\t1\t31\nmember\t31\t32\t1\t31\nmember\t32\t32\t1\t31\nday\t31\t32\nacct\t1\t0\tH\t1\t0\t0\t0\nacct\t2\t0\tH\t4\t0\t0\t0\nacct\t3\t0\tH\t9\t0\t0\t0\nacct\t4\t0\tH\t16\t0\t0\t0\nacct\t5\t0\tH\t25\t0\t0\t0\nacct\t6\t0\tH\t36\t0\t0\t0\nacct\t7\t0\tH\t49\t0\t0\t0\nacct\t8\t0\tH\t64\t0\t0\t0\nacct\t9\t0\tH\t81\t0\t0\t0\nacct\t10\t0\tH\t100\t0\t0\t0\nacct\t11\t0\tH\t121\t0\t0\t0\nacct\t12\t0\tH\t144\t0\t0\t0\nacct\t13\t0\tH\t169\t0\t0\t0\nacct\t14\t0\tH\t196\t0\t0\t0\nacct\t15\t0\tH\t225\t0\t0\t0\nacct\t16\t0\tH\t256\t0\t0\t0\nacct\t17\t0\tH\t289\t0\t0\t0\nacct\t18\t0\tH\t324\t0\t0\t0\nacct\t19\t0\tH\t361\t0\t0\t0\nacct\t20\t0\tH\t400\t0\t0\t0\nacct\t21\t0\tH\t441\t0\t0\t0\nacct\t22\t0\tH\t484\t0\t0\t0\nacct\t23\t0\tH\t529\t0\t0\t0\nacct\t24\t0\tH\t576\t0\t0\t0\nacct\t25\t0\tH\t625\t0\t0\t0\nacct\t26\t0\tH\t676\t0\t0\t0\nacct\t27\t0\tH\t729\t0\t0\t0\nacct\t28\t0\tH\t784\t0\t0\t0\nacct\t29\t0\tH\t841\t0\t0\t0\nacct\t30\t0\tH\t900\t0\t0\t0\nacct\t31\t0\tH\t961\t0\t0\t0\nacct\t32\t0\tH\t1024\t0\t0\t0\nend\n" gives "day\t31\t11440\t1985\ndaily\t1\t1\t87412587413\t17\t19\t38\ndaily\t2\t4\t349650349651\t69\t76\t153\ndaily\t3\t9\t786713286714\t156\t172\t344\ndaily\t4\t16\t1398601398602\t278\t305\t611\ndaily\t5\t25\t2185314685315\t434\t477\t954\ndaily\t6\t36\t3146853146854\t625\t687\t1374\ndaily\t7\t49\t4283216783217\t850\t935\t1870\ndaily\t8\t64\t5594405594406\t1110\t1222\t2443\ndaily\t9\t81\t7080419580420\t1405\t1546\t3092\ndaily\t10\t100\t8741258741259\t1735\t1909\t3817\ndaily\t11\t121\t10576923076924\t2100\t2309\t4619\ndaily\t12\t144\t12587412587413\t2499\t2748\t5497\ndaily\t13\t169\t14772727272728\t2932\t3226\t6451\ndaily\t14\t196\t17132867132868\t3401\t3741\t7482\ndaily\t15\t225\t19667832167833\t3904\t4294\t8589\ndaily\t16\t256\t22377622377623\t4442\t4886\t9772\ndaily\t17\t289\t25262237762238\t5015\t5516\t11032\ndaily\t18\t324\t28321678321679\t5622\t6184\t12368\ndaily\t19\t361\t31555944055945\t6264\t6890\t13780\ndaily\t20\t400\t34965034965035\t6941\t7635\t15269\ndaily\t21\t441\t38548951048952\t7652\t8417\t16834\ndaily\t22\t484\t42307692307693\t8398\t9238\t18476\ndaily\t23\t529\t46241258741259\t9179\t10097\t20194\ndaily\t24\t576\t50349650349651\t9994\t10994\t21988\ndaily\t25\t625\t54632867132868\t10845\t11929\t23858\ndaily\t26\t676\t59090909090910\t11730\t12903\t25805\ndaily\t27\t729\t63723776223777\t12649\t13914\t27828\ndaily\t28\t784\t68531468531469\t13603\t14964\t29928\ndaily\t29\t841\t73513986013987\t14593\t16052\t32104\ndaily\t30\t900\t78671328671329\t15616\t17178\t34356\ndaily\t31\t961\t84003496503497\t16675\t18342\t36684\ndaily\t32\t1024\t89510489510490\t17768\t19545\t39089\ntotal\t11440\t1000000000000019\t198501\t218350\t436699\nfund\t1\t1985\t1600000000\ncontribution\t1\t1\t50000000\t100000000\ncontribution\t2\t1\t50000000\t100000000\ncontribution\t3\t2\t50000000\t100000000\ncontribution\t4\t4\t50000000\t100000000\ncontribution\t5\t5\t50000000\t100000000\ncontribution\t6\t7\t50000000\t100000000\ncontribution\t7\t10\t50000000\t100000000\ncontribution\t8\t13\t50000000\t100000000\ncontribution\t9\t16\t50000000\t100000000\ncontribution\t10\t20\t50000000\t100000000\ncontribution\t11\t24\t50000000\t100000000\ncontribution\t12\t28\t50000000\t100000000\ncontribution\t13\t33\t50000000\t100000000\ncontribution\t14\t38\t50000000\t100000000\ncontribution\t15\t43\t50000000\t100000000\ncontribution\t16\t49\t50000000\t100000000\ncontribution\t17\t56\t50000000\t100000000\ncontribution\t18\t62\t50000000\t100000000\ncontribution\t19\t69\t50000000\t100000000\ncontribution\t20\t77\t50000000\t100000000\ncontribution\t21\t85\t50000000\t100000000\ncontribution\t22\t93\t50000000\t100000000\ncontribution\t23\t101\t50000000\t100000000\ncontribution\t24\t110\t50000000\t100000000\ncontribution\t25\t120\t50000000\t100000000\ncontribution\t26\t130\t50000000\t100000000\ncontribution\t27\t140\t50000000\t100000000\ncontribution\t28\t150\t50000000\t100000000\ncontribution\t29\t161\t50000000\t100000000\ncontribution\t30\t172\t50000000\t100000000\ncontribution\t31\t184\t50000000\t100000000\ncontribution\t32\t196\t50000000\t100000000\n")
    -- 31 days, each with a loss of its own, the first of a dollar
    ∷ ("period\t1\t1\nmember\t1\t0\t1\t31\nday\t1\t1\nacct\t1\t0\tH\t1\t0\t0\t0\nday\t2\t1\nacct\t1\t0\tH\t4\t0\t0\t0\nday\t3\t1\nacct\t1\t0\tH\t9\t0\t0\t0\nday\t4\t1\nacct\t1\t0\tH\t16\t0\t0\t0\nday\t5\t1\nacct\t1\t0\tH\t25\t0\t0\t0\nday\t6\t1\nacct\t1\t0\tH\t36\t0\t0\t0\nday\t7\t1\nacct\t1\t0\tH\t49\t0\t0\t0\nday\t8\t1\nacct\t1\t0\tH\t64\t0\t0\t0\nday\t9\t1\nacct\t1\t0\tH\t81\t0\t0\t0\nday\t10\t1\nacct\t1\t0\tH\t100\t0\t0\t0\nday\t11\t1\nacct\t1\t0\tH\t121\t0\t0\t0\nday\t12\t1\nacct\t1\t0\tH\t144\t0\t0\t0\nday\t13\t1\nacct\t1\t0\tH\t169\t0\t0\t0\nday\t14\t1\nacct\t1\t0\tH\t196\t0\t0\t0\nday\t15\t1\nacct\t1\t0\tH\t225\t0\t0\t0\nday\t16\t1\nacct\t1\t0\tH\t256\t0\t0\t0\nday\t17\t1\nacct\t1\t0\tH\t289\t0\t0\t0\nday\t18\t1\nacct\t1\t0\tH\t324\t0\t0\t0\nday\t19\t1\nacct\t1\t0\tH\t361\t0\t0\t0\nday\t20\t1\nacct\t1\t0\tH\t400\t0\t0\t0\nday\t21\t1\nacct\t1\t0\tH\t441\t0\t0\t0\nday\t22\t1\nacct\t1\t0\tH\t484\t0\t0\t0\nday\t23\t1\nacct\t1\t0\tH\t529\t0\t0\t0\nday\t24\t1\nacct\t1\t0\tH\t576\t0\t0\t0\nday\t25\t1\nacct\t1\t0\tH\t625\t0\t0\t0\nday\t26\t1\nacct\t1\t0\tH\t676\t0\t0\t0\nday\t27\t1\nacct\t1\t0\tH\t729\t0\t0\t0\nday\t28\t1\nacct\t1\t0\tH\t784\t0\t0\t0\nday\t29\t1\nacct\t1\t0\tH\t841\t0\t0\t0\nday\t30\t1\nacct\t1\t0\tH\t900\t0\t0\t0\nday\t31\t1\nacct\t1\t0\tH\t961\t0\t0\t0\nend\n" gives "day\t1\t1\t1\ndaily\t1\t1\t1000000000000000\t100\t110\t220\ntotal\t1\t1000000000000000\t100\t110\t220\nday\t2\t4\t4\ndaily\t1\t4\t1000000000000000\t400\t440\t880\ntotal\t4\t1000000000000000\t400\t440\t880\nday\t3\t9\t9\ndaily\t1\t9\t1000000000000000\t900\t990\t1980\ntotal\t9\t1000000000000000\t900\t990\t1980\nday\t4\t16\t16\ndaily\t1\t16\t1000000000000000\t1600\t1760\t3520\ntotal\t16\t1000000000000000\t1600\t1760\t3520\nday\t5\t25\t25\ndaily\t1\t25\t1000000000000000\t2500\t2750\t5500\ntotal\t25\t1000000000000000\t2500\t2750\t5500\nday\t6\t36\t36\ndaily\t1\t36\t1000000000000000\t3600\t3960\t7920\ntotal\t36\t1000000000000000\t3600\t3960\t7920\nday\t7\t49\t49\ndaily\t1\t49\t1000000000000000\t4900\t5390\t10780\ntotal\t49\t1000000000000000\t4900\t5390\t10780\nday\t8\t64\t64\ndaily\t1\t64\t1000000000000000\t6400\t7040\t14080\ntotal\t64\t1000000000000000\t6400\t7040\t14080\nday\t9\t81\t81\ndaily\t1\t81\t1000000000000000\t8100\t8910\t17820\ntotal\t81\t1000000000000000\t8100\t8910\t17820\nday\t10\t100\t100\ndaily\t1\t100\t1000000000000000\t10000\t11000\t22000\ntotal\t100\t1000000000000000\t10000\t11000\t22000\nday\t11\t121\t121\ndaily\t1\t121\t1000000000000000\t12100\t13310\t26620\ntotal\t121\t1000000000000000\t12100\t13310\t26620\nday\t12\t144\t144\ndaily\t1\t144\t1000000000000000\t14400\t15840\t31680\ntotal\t144\t1000000000000000\t14400\t15840\t31680\nday\t13\t169\t169\ndaily\t1\t169\t1000000000000000\t16900\t18590\t37180\ntotal\t169\t1000000000000000\t16900\t18590\t37180\nday\t14\t196\t196\ndaily\t1\t196\t1000000000000000\t19600\t21560\t43120\ntotal\t196\t1000000000000000\t19600\t21560\t43120\nday\t15\t225\t225\ndaily\t1\t225\t1000000000000000\t22500\t24750\t49500\ntotal\t225\t1000000000000000\t22500\t24750\t49500\nday\t16\t256\t256\ndaily\t1\t256\t1000000000000000\t25600\t28160\t56320\ntotal\t256\t1000000000000000\t25600\t28160\t56320\nday\t17\t289\t289\ndaily\t1\t289\t1000000000000000\t28900\t31790\t63580\ntotal\t289\t1000000000000000\t28900\t31790\t63580\nday\t18\t324\t324\ndaily\t1\t324\t1000000000000000\t32400\t35640\t71280\ntotal\t324\t1000000000000000\t32400\t35640\t71280\nday\t19\t361\t361\ndaily\t1\t361\t1000000000000000\t36100\t39710\t79420\ntotal\t361\t1000000000000000\t36100\t39710\t79420\nday\t20\t400\t400\ndaily\t1\t400\t1000000000000000\t40000\t44000\t88000\ntotal\t400\t1000000000000000\t40000\t44000\t88000\nday\t21\t441\t441\ndaily\t1\t441\t1000000000000000\t44100\t48510\t97020\ntotal\t441\t1000000000000000\t44100\t48510\t97020\nday\t22\t484\t484\ndaily\t1\t484\t1000000000000000\t48400\t53240\t106480\ntotal\t484\t1000000000000000\t48400\t53240\t106480\nday\t23\t529\t529\ndaily\t1\t529\t1000000000000000\t52900\t58190\t116380\ntotal\t529\t1000000000000000\t52900\t58190\t116380\nday\t24\t576\t576\ndaily\t1\t576\t1000000000000000\t57600\t63360\t126720\ntotal\t576\t1000000000000000\t57600\t63360\t126720\nday\t25\t625\t625\ndaily\t1\t625\t1000000000000000\t62500\t68750\t137500\ntotal\t625\t1000000000000000\t62500\t68750\t137500\nday\t26\t676\t676\ndaily\t1\t676\t1000000000000000\t67600\t74360\t148720\ntotal\t676\t1000000000000000\t67600\t74360\t148720\nday\t27\t729\t729\ndaily\t1\t729\t1000000000000000\t72900\t80190\t160380\ntotal\t729\t1000000000000000\t72900\t80190\t160380\nday\t28\t784\t784\ndaily\t1\t784\t1000000000000000\t78400\t86240\t172480\ntotal\t784\t1000000000000000\t78400\t86240\t172480\nday\t29\t841\t841\ndaily\t1\t841\t1000000000000000\t84100\t92510\t185020\ntotal\t841\t1000000000000000\t84100\t92510\t185020\nday\t30\t900\t900\ndaily\t1\t900\t1000000000000000\t90000\t99000\t198000\ntotal\t900\t1000000000000000\t90000\t99000\t198000\nday\t31\t961\t961\ndaily\t1\t961\t1000000000000000\t96100\t105710\t211420\ntotal\t961\t1000000000000000\t96100\t105710\t211420\nfund\t31\t961\t50000000\ncontribution\t1\t1058\t50000000\t100000000\n")
    -- two days of one Max EUL and unlike T
    ∷ ("period\t2\t1\nmember\t1\t0\t1\t31\nmember\t2\t0\t1\t31\nday\t1\t2\nacct\t1\t0\tH\t10\t0\t0\t0\nacct\t2\t0\tH\t0\t0\t0\t0\nday\t2\t2\nacct\t1\t0\tH\t10\t0\t0\t0\nacct\t2\t0\tH\t5\t0\t0\t0\nend\n" gives "day\t1\t10\t10\ndaily\t1\t10\t1000000000000000\t1000\t1100\t2200\ndaily\t2\t0\t0\t0\t0\t0\ntotal\t10\t1000000000000000\t1000\t1100\t2200\nday\t2\t15\t10\ndaily\t1\t10\t666666666666667\t667\t733\t1467\ndaily\t2\t5\t333333333333334\t333\t367\t733\ntotal\t15\t1000000000000001\t1000\t1100\t2200\nfund\t2\t10\t100000000\ncontribution\t1\t10\t50000000\t100000000\ncontribution\t2\t2\t50000000\t100000000\n")
    -- sums of 17 digits
    ∷ ("period\t2\t1\nmember\t1\t0\t1\t31\nmember\t2\t0\t1\t31\nday\t3\t42\nacct\t1\t0\tH\t1\t0\t0\t0\nacct\t1\t1\tU\t999999999993\t0\t0\t-999999999997\nacct\t1\t2\tU\t999999999986\t0\t0\t-999999999994\nacct\t1\t3\tU\t999999999979\t0\t0\t-999999999991\nacct\t1\t4\tU\t999999999972\t0\t0\t-999999999988\nacct\t1\t5\tU\t999999999965\t0\t0\t-999999999985\nacct\t1\t6\tU\t999999999958\t0\t0\t-999999999982\nacct\t1\t7\tU\t999999999951\t0\t0\t-999999999979\nacct\t1\t8\tU\t999999999944\t0\t0\t-999999999976\nacct\t1\t9\tU\t999999999937\t0\t0\t-999999999973\nacct\t1\t10\tU\t999999999930\t0\t0\t-999999999970\nacct\t1\t11\tU\t999999999923\t0\t0\t-999999999967\nacct\t1\t12\tU\t999999999916\t0\t0\t-999999999964\nacct\t1\t13\tU\t999999999909\t0\t0\t-999999999961\nacct\t1\t14\tU\t999999999902\t0\t0\t-999999999958\nacct\t1\t15\tU\t999999999895\t0\t0\t-999999999955\nacct\t1\t16\tU\t999999999888\t0\t0\t-999999999952\nacct\t1\t17\tU\t999999999881\t0\t0\t-999999999949\nacct\t1\t18\tU\t999999999874\t0\t0\t-999999999946\nacct\t1\t19\tU\t999999999867\t0\t0\t-999999999943\nacct\t1\t20\tU\t999999999860\t0\t0\t-999999999940\nacct\t1\t21\tU\t999999999853\t0\t0\t-999999999937\nacct\t1\t22\tU\t999999999846\t0\t0\t-999999999934\nacct\t1\t23\tU\t999999999839\t0\t0\t-999999999931\nacct\t1\t24\tU\t999999999832\t0\t0\t-999999999928\nacct\t1\t25\tU\t999999999825\t0\t0\t-999999999925\nacct\t1\t26\tU\t999999999818\t0\t0\t-999999999922\nacct\t1\t27\tU\t999999999811\t0\t0\t-999999999919\nacct\t1\t28\tU\t999999999804\t0\t0\t-999999999916\nacct\t1\t29\tU\t999999999797\t0\t0\t-999999999913\nacct\t1\t30\tU\t999999999790\t0\t0\t-999999999910\nacct\t1\t31\tU\t999999999783\t0\t0\t-999999999907\nacct\t1\t32\tU\t999999999776\t0\t0\t-999999999904\nacct\t1\t33\tU\t999999999769\t0\t0\t-999999999901\nacct\t1\t34\tU\t999999999762\t0\t0\t-999999999898\nacct\t1\t35\tU\t999999999755\t0\t0\t-999999999895\nacct\t1\t36\tU\t999999999748\t0\t0\t-999999999892\nacct\t1\t37\tU\t999999999741\t0\t0\t-999999999889\nacct\t1\t38\tU\t999999999734\t0\t0\t-999999999886\nacct\t1\t39\tU\t999999999727\t0\t0\t-999999999883\nacct\t1\t40\tU\t999999999720\t0\t0\t-999999999880\nacct\t2\t0\tH\t999999999999\t0\t0\t0\nend\n" gives "day\t3\t120999999987700\t119999999987701\ndaily\t1\t119999999987701\t991735537189251\t11900826445051274\t13090909089556402\t26181818179112803\ndaily\t2\t999999999999\t8264462810750\t99173553718826\t109090909090708\t218181818181417\ntotal\t120999999987700\t1000000000000001\t11999999998770100\t13199999998647110\t26399999997294220\nfund\t1\t119999999987701\t131999999986473\ncontribution\t1\t130909090895565\t130909090895565\t261818181791130\ncontribution\t2\t1090909090908\t1090909090908\t2181818181816\n")
    -- 5 at account 255
    ∷ ("period\t1\t1\nmember\t1\t0\t1\t31\nday\t1\t256\nacct\t1\t0\tH\t1\t0\t0\t0\nacct\t1\t1\tU\t1\t0\t0\t0\nacct\t1\t2\tU\t1\t0\t0\t0\nacct\t1\t3\tU\t1\t0\t0\t0\nacct\t1\t4\tU\t1\t0\t0\t0\nacct\t1\t5\tU\t1\t0\t0\t0\nacct\t1\t6\tU\t1\t0\t0\t0\nacct\t1\t7\tU\t1\t0\t0\t0\nacct\t1\t8\tU\t1\t0\t0\t0\nacct\t1\t9\tU\t1\t0\t0\t0\nacct\t1\t10\tU\t1\t0\t0\t0\nacct\t1\t11\tU\t1\t0\t0\t0\nacct\t1\t12\tU\t1\t0\t0\t0\nacct\t1\t13\tU\t1\t0\t0\t0\nacct\t1\t14\tU\t1\t0\t0\t0\nacct\t1\t15\tU\t1\t0\t0\t0\nacct\t1\t16\tU\t1\t0\t0\t0\nacct\t1\t17\tU\t1\t0\t0\t0\nacct\t1\t18\tU\t1\t0\t0\t0\nacct\t1\t19\tU\t1\t0\t0\t0\nacct\t1\t20\tU\t1\t0\t0\t0\nacct\t1\t21\tU\t1\t0\t0\t0\nacct\t1\t22\tU\t1\t0\t0\t0\nacct\t1\t23\tU\t1\t0\t0\t0\nacct\t1\t24\tU\t1\t0\t0\t0\nacct\t1\t25\tU\t1\t0\t0\t0\nacct\t1\t26\tU\t1\t0\t0\t0\nacct\t1\t27\tU\t1\t0\t0\t0\nacct\t1\t28\tU\t1\t0\t0\t0\nacct\t1\t29\tU\t1\t0\t0\t0\nacct\t1\t30\tU\t1\t0\t0\t0\nacct\t1\t31\tU\t1\t0\t0\t0\nacct\t1\t32\tU\t1\t0\t0\t0\nacct\t1\t33\tU\t1\t0\t0\t0\nacct\t1\t34\tU\t1\t0\t0\t0\nacct\t1\t35\tU\t1\t0\t0\t0\nacct\t1\t36\tU\t1\t0\t0\t0\nacct\t1\t37\tU\t1\t0\t0\t0\nacct\t1\t38\tU\t1\t0\t0\t0\nacct\t1\t39\tU\t1\t0\t0\t0\nacct\t1\t40\tU\t1\t0\t0\t0\nacct\t1\t41\tU\t1\t0\t0\t0\nacct\t1\t42\tU\t1\t0\t0\t0\nacct\t1\t43\tU\t1\t0\t0\t0\nacct\t1\t44\tU\t1\t0\t0\t0\nacct\t1\t45\tU\t1\t0\t0\t0\nacct\t1\t46\tU\t1\t0\t0\t0\nacct\t1\t47\tU\t1\t0\t0\t0\nacct\t1\t48\tU\t1\t0\t0\t0\nacct\t1\t49\tU\t1\t0\t0\t0\nacct\t1\t50\tU\t1\t0\t0\t0\nacct\t1\t51\tU\t1\t0\t0\t0\nacct\t1\t52\tU\t1\t0\t0\t0\nacct\t1\t53\tU\t1\t0\t0\t0\nacct\t1\t54\tU\t1\t0\t0\t0\nacct\t1\t55\tU\t1\t0\t0\t0\nacct\t1\t56\tU\t1\t0\t0\t0\nacct\t1\t57\tU\t1\t0\t0\t0\nacct\t1\t58\tU\t1\t0\t0\t0\nacct\t1\t59\tU\t1\t0\t0\t0\nacct\t1\t60\tU\t1\t0\t0\t0\nacct\t1\t61\tU\t1\t0\t0\t0\nacct\t1\t62\tU\t1\t0\t0\t0\nacct\t1\t63\tU\t1\t0\t0\t0\nacct\t1\t64\tU\t1\t0\t0\t0\nacct\t1\t65\tU\t1\t0\t0\t0\nacct\t1\t66\tU\t1\t0\t0\t0\nacct\t1\t67\tU\t1\t0\t0\t0\nacct\t1\t68\tU\t1\t0\t0\t0\nacct\t1\t69\tU\t1\t0\t0\t0\nacct\t1\t70\tU\t1\t0\t0\t0\nacct\t1\t71\tU\t1\t0\t0\t0\nacct\t1\t72\tU\t1\t0\t0\t0\nacct\t1\t73\tU\t1\t0\t0\t0\nacct\t1\t74\tU\t1\t0\t0\t0\nacct\t1\t75\tU\t1\t0\t0\t0\nacct\t1\t76\tU\t1\t0\t0\t0\nacct\t1\t77\tU\t1\t0\t0\t0\nacct\t1\t78\tU\t1\t0\t0\t0\nacct\t1\t79\tU\t1\t0\t0\t0\nacct\t1\t80\tU\t1\t0\t0\t0\nacct\t1\t81\tU\t1\t0\t0\t0\nacct\t1\t82\tU\t1\t0\t0\t0\nacct\t1\t83\tU\t1\t0\t0\t0\nacct\t1\t84\tU\t1\t0\t0\t0\nacct\t1\t85\tU\t1\t0\t0\t0\nacct\t1\t86\tU\t1\t0\t0\t0\nacct\t1\t87\tU\t1\t0\t0\t0\nacct\t1\t88\tU\t1\t0\t0\t0\nacct\t1\t89\tU\t1\t0\t0\t0\nacct\t1\t90\tU\t1\t0\t0\t0\nacct\t1\t91\tU\t1\t0\t0\t0\nacct\t1\t92\tU\t1\t0\t0\t0\nacct\t1\t93\tU\t1\t0\t0\t0\nacct\t1\t94\tU\t1\t0\t0\t0\nacct\t1\t95\tU\t1\t0\t0\t0\nacct\t1\t96\tU\t1\t0\t0\t0\nacct\t1\t97\tU\t1\t0\t0\t0\nacct\t1\t98\tU\t1\t0\t0\t0\nacct\t1\t99\tU\t1\t0\t0\t0\nacct\t1\t100\tU\t1\t0\t0\t0\nacct\t1\t101\tU\t1\t0\t0\t0\nacct\t1\t102\tU\t1\t0\t0\t0\nacct\t1\t103\tU\t1\t0\t0\t0\nacct\t1\t104\tU\t1\t0\t0\t0\nacct\t1\t105\tU\t1\t0\t0\t0\nacct\t1\t106\tU\t1\t0\t0\t0\nacct\t1\t107\tU\t1\t0\t0\t0\nacct\t1\t108\tU\t1\t0\t0\t0\nacct\t1\t109\tU\t1\t0\t0\t0\nacct\t1\t110\tU\t1\t0\t0\t0\nacct\t1\t111\tU\t1\t0\t0\t0\nacct\t1\t112\tU\t1\t0\t0\t0\nacct\t1\t113\tU\t1\t0\t0\t0\nacct\t1\t114\tU\t1\t0\t0\t0\nacct\t1\t115\tU\t1\t0\t0\t0\nacct\t1\t116\tU\t1\t0\t0\t0\nacct\t1\t117\tU\t1\t0\t0\t0\nacct\t1\t118\tU\t1\t0\t0\t0\nacct\t1\t119\tU\t1\t0\t0\t0\nacct\t1\t120\tU\t1\t0\t0\t0\nacct\t1\t121\tU\t1\t0\t0\t0\nacct\t1\t122\tU\t1\t0\t0\t0\nacct\t1\t123\tU\t1\t0\t0\t0\nacct\t1\t124\tU\t1\t0\t0\t0\nacct\t1\t125\tU\t1\t0\t0\t0\nacct\t1\t126\tU\t1\t0\t0\t0\nacct\t1\t127\tU\t1\t0\t0\t0\nacct\t1\t128\tU\t1\t0\t0\t0\nacct\t1\t129\tU\t1\t0\t0\t0\nacct\t1\t130\tU\t1\t0\t0\t0\nacct\t1\t131\tU\t1\t0\t0\t0\nacct\t1\t132\tU\t1\t0\t0\t0\nacct\t1\t133\tU\t1\t0\t0\t0\nacct\t1\t134\tU\t1\t0\t0\t0\nacct\t1\t135\tU\t1\t0\t0\t0\nacct\t1\t136\tU\t1\t0\t0\t0\nacct\t1\t137\tU\t1\t0\t0\t0\nacct\t1\t138\tU\t1\t0\t0\t0\nacct\t1\t139\tU\t1\t0\t0\t0\nacct\t1\t140\tU\t1\t0\t0\t0\nacct\t1\t141\tU\t1\t0\t0\t0\nacct\t1\t142\tU\t1\t0\t0\t0\nacct\t1\t143\tU\t1\t0\t0\t0\nacct\t1\t144\tU\t1\t0\t0\t0\nacct\t1\t145\tU\t1\t0\t0\t0\nacct\t1\t146\tU\t1\t0\t0\t0\nacct\t1\t147\tU\t1\t0\t0\t0\nacct\t1\t148\tU\t1\t0\t0\t0\nacct\t1\t149\tU\t1\t0\t0\t0\nacct\t1\t150\tU\t1\t0\t0\t0\nacct\t1\t151\tU\t1\t0\t0\t0\nacct\t1\t152\tU\t1\t0\t0\t0\nacct\t1\t153\tU\t1\t0\t0\t0\nacct\t1\t154\tU\t1\t0\t0\t0\nacct\t1\t155\tU\t1\t0\t0\t0\nacct\t1\t156\tU\t1\t0\t0\t0\nacct\t1\t157\tU\t1\t0\t0\t0\nacct\t1\t158\tU\t1\t0\t0\t0\nacct\t1\t159\tU\t1\t0\t0\t0\nacct\t1\t160\tU\t1\t0\t0\t0\nacct\t1\t161\tU\t1\t0\t0\t0\nacct\t1\t162\tU\t1\t0\t0\t0\nacct\t1\t163\tU\t1\t0\t0\t0\nacct\t1\t164\tU\t1\t0\t0\t0\nacct\t1\t165\tU\t1\t0\t0\t0\nacct\t1\t166\tU\t1\t0\t0\t0\nacct\t1\t167\tU\t1\t0\t0\t0\nacct\t1\t168\tU\t1\t0\t0\t0\nacct\t1\t169\tU\t1\t0\t0\t0\nacct\t1\t170\tU\t1\t0\t0\t0\nacct\t1\t171\tU\t1\t0\t0\t0\nacct\t1\t172\tU\t1\t0\t0\t0\nacct\t1\t173\tU\t1\t0\t0\t0\nacct\t1\t174\tU\t1\t0\t0\t0\nacct\t1\t175\tU\t1\t0\t0\t0\nacct\t1\t176\tU\t1\t0\t0\t0\nacct\t1\t177\tU\t1\t0\t0\t0\nacct\t1\t178\tU\t1\t0\t0\t0\nacct\t1\t179\tU\t1\t0\t0\t0\nacct\t1\t180\tU\t1\t0\t0\t0\nacct\t1\t181\tU\t1\t0\t0\t0\nacct\t1\t182\tU\t1\t0\t0\t0\nacct\t1\t183\tU\t1\t0\t0\t0\nacct\t1\t184\tU\t1\t0\t0\t0\nacct\t1\t185\tU\t1\t0\t0\t0\nacct\t1\t186\tU\t1\t0\t0\t0\nacct\t1\t187\tU\t1\t0\t0\t0\nacct\t1\t188\tU\t1\t0\t0\t0\nacct\t1\t189\tU\t1\t0\t0\t0\nacct\t1\t190\tU\t1\t0\t0\t0\nacct\t1\t191\tU\t1\t0\t0\t0\nacct\t1\t192\tU\t1\t0\t0\t0\nacct\t1\t193\tU\t1\t0\t0\t0\nacct\t1\t194\tU\t1\t0\t0\t0\nacct\t1\t195\tU\t1\t0\t0\t0\nacct\t1\t196\tU\t1\t0\t0\t0\nacct\t1\t197\tU\t1\t0\t0\t0\nacct\t1\t198\tU\t1\t0\t0\t0\nacct\t1\t199\tU\t1\t0\t0\t0\nacct\t1\t200\tU\t1\t0\t0\t0\nacct\t1\t201\tU\t1\t0\t0\t0\nacct\t1\t202\tU\t1\t0\t0\t0\nacct\t1\t203\tU\t1\t0\t0\t0\nacct\t1\t204\tU\t1\t0\t0\t0\nacct\t1\t205\tU\t1\t0\t0\t0\nacct\t1\t206\tU\t1\t0\t0\t0\nacct\t1\t207\tU\t1\t0\t0\t0\nacct\t1\t208\tU\t1\t0\t0\t0\nacct\t1\t209\tU\t1\t0\t0\t0\nacct\t1\t210\tU\t1\t0\t0\t0\nacct\t1\t211\tU\t1\t0\t0\t0\nacct\t1\t212\tU\t1\t0\t0\t0\nacct\t1\t213\tU\t1\t0\t0\t0\nacct\t1\t214\tU\t1\t0\t0\t0\nacct\t1\t215\tU\t1\t0\t0\t0\nacct\t1\t216\tU\t1\t0\t0\t0\nacct\t1\t217\tU\t1\t0\t0\t0\nacct\t1\t218\tU\t1\t0\t0\t0\nacct\t1\t219\tU\t1\t0\t0\t0\nacct\t1\t220\tU\t1\t0\t0\t0\nacct\t1\t221\tU\t1\t0\t0\t0\nacct\t1\t222\tU\t1\t0\t0\t0\nacct\t1\t223\tU\t1\t0\t0\t0\nacct\t1\t224\tU\t1\t0\t0\t0\nacct\t1\t225\tU\t1\t0\t0\t0\nacct\t1\t226\tU\t1\t0\t0\t0\nacct\t1\t227\tU\t1\t0\t0\t0\nacct\t1\t228\tU\t1\t0\t0\t0\nacct\t1\t229\tU\t1\t0\t0\t0\nacct\t1\t230\tU\t1\t0\t0\t0\nacct\t1\t231\tU\t1\t0\t0\t0\nacct\t1\t232\tU\t1\t0\t0\t0\nacct\t1\t233\tU\t1\t0\t0\t0\nacct\t1\t234\tU\t1\t0\t0\t0\nacct\t1\t235\tU\t1\t0\t0\t0\nacct\t1\t236\tU\t1\t0\t0\t0\nacct\t1\t237\tU\t1\t0\t0\t0\nacct\t1\t238\tU\t1\t0\t0\t0\nacct\t1\t239\tU\t1\t0\t0\t0\nacct\t1\t240\tU\t1\t0\t0\t0\nacct\t1\t241\tU\t1\t0\t0\t0\nacct\t1\t242\tU\t1\t0\t0\t0\nacct\t1\t243\tU\t1\t0\t0\t0\nacct\t1\t244\tU\t1\t0\t0\t0\nacct\t1\t245\tU\t1\t0\t0\t0\nacct\t1\t246\tU\t1\t0\t0\t0\nacct\t1\t247\tU\t1\t0\t0\t0\nacct\t1\t248\tU\t1\t0\t0\t0\nacct\t1\t249\tU\t1\t0\t0\t0\nacct\t1\t250\tU\t1\t0\t0\t0\nacct\t1\t251\tU\t1\t0\t0\t0\nacct\t1\t252\tU\t1\t0\t0\t0\nacct\t1\t253\tU\t1\t0\t0\t0\nacct\t1\t254\tU\t1\t0\t0\t0\nacct\t1\t65536\tU\t1\t0\t0\t0\nend\n" gives "refused\t5\t259\n")
    -- a period line of a field too few
    ∷ ("period\t2\nmember\t1\t0\t1\t31\nmember\t2\t0\t1\t31\nday\t3\t2\nacct\t1\t0\tH\t390000000\t0\t0\t0\nacct\t2\t0\tH\t10000000\t0\t0\t0\nend\n" gives "refused\t9\t1\n")
    -- a period line of its word alone
    ∷ ("period\nmember\t1\t0\t1\t31\nmember\t2\t0\t1\t31\nday\t3\t2\nacct\t1\t0\tH\t390000000\t0\t0\t0\nacct\t2\t0\tH\t10000000\t0\t0\t0\nend\n" gives "refused\t9\t1\n")
    -- a period line of a field too many
    ∷ ("period\t2\t1\t0\nmember\t1\t0\t1\t31\nmember\t2\t0\t1\t31\nday\t3\t2\nacct\t1\t0\tH\t390000000\t0\t0\t0\nacct\t2\t0\tH\t10000000\t0\t0\t0\nend\n" gives "refused\t9\t1\n")
    -- a member line of a field too few
    ∷ ("period\t2\t1\nmember\t1\t0\t1\nmember\t2\t0\t1\t31\nday\t3\t2\nacct\t1\t0\tH\t390000000\t0\t0\t0\nacct\t2\t0\tH\t10000000\t0\t0\t0\nend\n" gives "refused\t9\t2\n")
    -- a member line of its word alone
    ∷ ("period\t2\t1\nmember\nmember\t2\t0\t1\t31\nday\t3\t2\nacct\t1\t0\tH\t390000000\t0\t0\t0\nacct\t2\t0\tH\t10000000\t0\t0\t0\nend\n" gives "refused\t9\t2\n")
    -- a member line of a field too many
    ∷ ("period\t2\t1\nmember\t1\t0\t1\t31\t0\nmember\t2\t0\t1\t31\nday\t3\t2\nacct\t1\t0\tH\t390000000\t0\t0\t0\nacct\t2\t0\tH\t10000000\t0\t0\t0\nend\n" gives "refused\t9\t2\n")
    -- a day line of a field too few
    ∷ ("period\t2\t1\nmember\t1\t0\t1\t31\nmember\t2\t0\t1\t31\nday\t3\nacct\t1\t0\tH\t390000000\t0\t0\t0\nacct\t2\t0\tH\t10000000\t0\t0\t0\nend\n" gives "refused\t9\t4\n")
    -- a day line of its word alone
    ∷ ("period\t2\t1\nmember\t1\t0\t1\t31\nmember\t2\t0\t1\t31\nday\nacct\t1\t0\tH\t390000000\t0\t0\t0\nacct\t2\t0\tH\t10000000\t0\t0\t0\nend\n" gives "refused\t9\t4\n")
    -- a day line of a field too many
    ∷ ("period\t2\t1\nmember\t1\t0\t1\t31\nmember\t2\t0\t1\t31\nday\t3\t2\t0\nacct\t1\t0\tH\t390000000\t0\t0\t0\nacct\t2\t0\tH\t10000000\t0\t0\t0\nend\n" gives "refused\t9\t4\n")
    -- perioD for a word
    ∷ ("perioD\t2\t1\nmember\t1\t0\t1\t31\nmember\t2\t0\t1\t31\nday\t3\t2\nacct\t1\t0\tH\t390000000\t0\t0\t0\nacct\t2\t0\tH\t10000000\t0\t0\t0\nend\n" gives "refused\t9\t1\n")
    -- perio for a word
    ∷ ("perio\t2\t1\nmember\t1\t0\t1\t31\nmember\t2\t0\t1\t31\nday\t3\t2\nacct\t1\t0\tH\t390000000\t0\t0\t0\nacct\t2\t0\tH\t10000000\t0\t0\t0\nend\n" gives "refused\t9\t1\n")
    -- membex for a word
    ∷ ("period\t2\t1\nmembex\t1\t0\t1\t31\nmember\t2\t0\t1\t31\nday\t3\t2\nacct\t1\t0\tH\t390000000\t0\t0\t0\nacct\t2\t0\tH\t10000000\t0\t0\t0\nend\n" gives "refused\t9\t2\n")
    -- membe for a word
    ∷ ("period\t2\t1\nmembe\t1\t0\t1\t31\nmember\t2\t0\t1\t31\nday\t3\t2\nacct\t1\t0\tH\t390000000\t0\t0\t0\nacct\t2\t0\tH\t10000000\t0\t0\t0\nend\n" gives "refused\t9\t2\n")
    -- dax for a word
    ∷ ("period\t2\t1\nmember\t1\t0\t1\t31\nmember\t2\t0\t1\t31\ndax\t3\t2\nacct\t1\t0\tH\t390000000\t0\t0\t0\nacct\t2\t0\tH\t10000000\t0\t0\t0\nend\n" gives "refused\t9\t4\n")
    -- da for a word
    ∷ ("period\t2\t1\nmember\t1\t0\t1\t31\nmember\t2\t0\t1\t31\nda\t3\t2\nacct\t1\t0\tH\t390000000\t0\t0\t0\nacct\t2\t0\tH\t10000000\t0\t0\t0\nend\n" gives "refused\t9\t4\n")
    -- accx for a word
    ∷ ("period\t2\t1\nmember\t1\t0\t1\t31\nmember\t2\t0\t1\t31\nday\t3\t2\naccx\t1\t0\tH\t390000000\t0\t0\t0\nacct\t2\t0\tH\t10000000\t0\t0\t0\nend\n" gives "refused\t9\t5\n")
    -- acc for a word
    ∷ ("period\t2\t1\nmember\t1\t0\t1\t31\nmember\t2\t0\t1\t31\nday\t3\t2\nacc\t1\t0\tH\t390000000\t0\t0\t0\nacct\t2\t0\tH\t10000000\t0\t0\t0\nend\n" gives "refused\t9\t5\n")
    -- enx for a word
    ∷ ("period\t2\t1\nmember\t1\t0\t1\t31\nmember\t2\t0\t1\t31\nday\t3\t2\nacct\t1\t0\tH\t390000000\t0\t0\t0\nacct\t2\t0\tH\t10000000\t0\t0\t0\nenx\n" gives "day\t3\t400000000\t390000000\ndaily\t1\t390000000\t975000000000000\t38025000000\t41827500000\t83655000000\ndaily\t2\t10000000\t25000000000000\t975000000\t1072500000\t2145000000\ntotal\t400000000\t1000000000000000\t39000000000\t42900000000\t85800000000\nrefused\t9\t7\n")
    -- en for a word
    ∷ ("period\t2\t1\nmember\t1\t0\t1\t31\nmember\t2\t0\t1\t31\nday\t3\t2\nacct\t1\t0\tH\t390000000\t0\t0\t0\nacct\t2\t0\tH\t10000000\t0\t0\t0\nen\n" gives "day\t3\t400000000\t390000000\ndaily\t1\t390000000\t975000000000000\t38025000000\t41827500000\t83655000000\ndaily\t2\t10000000\t25000000000000\t975000000\t1072500000\t2145000000\ntotal\t400000000\t1000000000000000\t39000000000\t42900000000\t85800000000\nrefused\t9\t7\n")
    -- k 17 before a bad member line
    ∷ ("period\t2\t17\nx\n" gives "refused\t1\t1\n")
    -- n 33 before a bad member line
    ∷ ("period\t33\t1\nx\n" gives "refused\t1\t1\n")
    -- k 17 and a group 33
    ∷ ("period\t1\t17\nmember\t1\t33\t1\t31\nend\n" gives "refused\t1\t1\n")
    -- count 0 at line 3
    ∷ ("period\t1\t1\nmember\t1\t0\t1\t31\nday\t3\t0\nend\n" gives "refused\t4\t3\n")
    -- count 257 on a second day
    ∷ ("period\t1\t1\nmember\t1\t0\t1\t31\nday\t1\t1\nacct\t1\t0\tH\t10\t0\t0\t0\nday\t2\t257\nend\n" gives "day\t1\t10\t10\ndaily\t1\t10\t1000000000000000\t1000\t1100\t2200\ntotal\t10\t1000000000000000\t1000\t1100\t2200\nrefused\t4\t5\n")
    -- 3 on a second day
    ∷ ("period\t1\t1\nmember\t1\t0\t1\t31\nday\t1\t1\nacct\t1\t0\tH\t10\t0\t0\t0\nday\t1\t1\nacct\t1\t0\tH\t10\t0\t0\t0\nend\n" gives "day\t1\t10\t10\ndaily\t1\t10\t1000000000000000\t1000\t1100\t2200\ntotal\t10\t1000000000000000\t1000\t1100\t2200\nrefused\t3\t5\n")
    -- 5 on a second day
    ∷ ("period\t1\t1\nmember\t1\t0\t1\t31\nday\t1\t1\nacct\t1\t0\tH\t10\t0\t0\t0\nday\t2\t2\nacct\t1\t0\tH\t10\t0\t0\t0\nacct\t1\t0\tH\t10\t0\t0\t0\nend\n" gives "day\t1\t10\t10\ndaily\t1\t10\t1000000000000000\t1000\t1100\t2200\ntotal\t10\t1000000000000000\t1000\t1100\t2200\nrefused\t5\t7\n")
    -- 5 past a second day
    ∷ ("period\t2\t1\nmember\t1\t0\t1\t31\nmember\t2\t0\t1\t31\nday\t1\t2\nacct\t1\t0\tH\t10\t0\t0\t0\nacct\t2\t0\tH\t20\t0\t0\t0\nday\t2\t1\nacct\t1\t0\tH\t10\t0\t0\t0\nend\n" gives "day\t1\t30\t20\ndaily\t1\t10\t333333333333334\t667\t733\t1467\ndaily\t2\t20\t666666666666667\t1333\t1467\t2933\ntotal\t30\t1000000000000001\t2000\t2200\t4400\nrefused\t5\t9\n")
    -- 6 on a second day
    ∷ ("period\t1\t1\nmember\t1\t0\t1\t31\nday\t1\t1\nacct\t1\t0\tH\t10\t0\t0\t0\nday\t2\t2\nacct\t1\t0\tH\t10\t0\t0\t0\nacct\t1\t1\tU\t10\t1\t2\t0\nend\n" gives "day\t1\t10\t10\ndaily\t1\t10\t1000000000000000\t1000\t1100\t2200\ntotal\t10\t1000000000000000\t1000\t1100\t2200\nrefused\t6\t7\n")
    -- a day without losses after one that counts
    ∷ ("period\t1\t1\nmember\t1\t0\t1\t31\nday\t1\t1\nacct\t1\t0\tH\t10\t0\t0\t0\nday\t2\t1\nacct\t1\t0\tH\t0\t0\t0\t0\nend\n" gives "day\t1\t10\t10\ndaily\t1\t10\t1000000000000000\t1000\t1100\t2200\ntotal\t10\t1000000000000000\t1000\t1100\t2200\nday\t2\t0\t10\ndaily\t1\t0\t0\t0\t0\t0\ntotal\t0\t0\t0\t0\t0\nfund\t1\t10\t50000000\ncontribution\t1\t11\t50000000\t100000000\n")
    -- 9 on a second day
    ∷ ("period\t1\t1\nmember\t1\t0\t1\t31\nday\t1\t1\nacct\t1\t0\tH\t10\t0\t0\t0\nday\t2\t2\nacct\t1\t0\tH\t10\t0\t0\t0\nacct\t1\tx\tU\t10\t0\t0\t0\nend\n" gives "day\t1\t10\t10\ndaily\t1\t10\t1000000000000000\t1000\t1100\t2200\ntotal\t10\t1000000000000000\t1000\t1100\t2200\nrefused\t9\t7\n")
    -- days that leave numbers out
    ∷ ("period\t1\t1\nmember\t1\t0\t1\t31\nday\t1\t1\nacct\t1\t0\tH\t10\t0\t0\t0\nday\t9\t1\nacct\t1\t0\tH\t30\t0\t0\t0\nday\t31\t1\nacct\t1\t0\tH\t20\t0\t0\t0\nend\n" gives "day\t1\t10\t10\ndaily\t1\t10\t1000000000000000\t1000\t1100\t2200\ntotal\t10\t1000000000000000\t1000\t1100\t2200\nday\t9\t30\t30\ndaily\t1\t30\t1000000000000000\t3000\t3300\t6600\ntotal\t30\t1000000000000000\t3000\t3300\t6600\nday\t31\t20\t30\ndaily\t1\t20\t1000000000000000\t3000\t3300\t6600\ntotal\t20\t1000000000000000\t3000\t3300\t6600\nfund\t3\t30\t50000000\ncontribution\t1\t33\t50000000\t100000000\n")
    -- groups of three and of two
    ∷ ("period\t7\t3\nmember\t1\t17\t1\t31\nmember\t2\t1\t1\t31\nmember\t3\t17\t1\t31\nmember\t4\t0\t1\t31\nmember\t5\t1\t1\t31\nmember\t6\t17\t1\t31\nmember\t7\t0\t1\t31\nday\t1\t7\nacct\t1\t0\tH\t10\t0\t0\t10\t0\t10\nacct\t2\t0\tH\t8\t0\t0\t8\t0\t8\nacct\t3\t0\tH\t10\t0\t0\t10\t0\t10\nacct\t4\t0\tH\t25\t0\t0\t25\t0\t25\nacct\t5\t0\tH\t8\t0\t0\t8\t0\t8\nacct\t6\t0\tH\t10\t0\t0\t10\t0\t10\nacct\t7\t0\tH\t1\t0\t0\t1\t0\t1\nday\t2\t7\nacct\t1\t0\tH\t10\t0\t0\t10\t0\t10\nacct\t2\t0\tH\t20\t0\t0\t20\t0\t20\nacct\t3\t0\tH\t10\t0\t0\t10\t0\t10\nacct\t4\t0\tH\t25\t0\t0\t25\t0\t25\nacct\t5\t0\tH\t20\t0\t0\t20\t0\t20\nacct\t6\t0\tH\t10\t0\t0\t10\t0\t10\nacct\t7\t0\tH\t1\t0\t0\t1\t0\t1\nend\n" gives "day\t1\t72\t30\ndaily\t1\t10\t138888888888889\t417\t458\t917\ndaily\t2\t8\t111111111111112\t333\t367\t733\ndaily\t3\t10\t138888888888889\t417\t458\t917\ndaily\t4\t25\t347222222222223\t1042\t1146\t2292\ndaily\t5\t8\t111111111111112\t333\t367\t733\ndaily\t6\t10\t138888888888889\t417\t458\t917\ndaily\t7\t1\t13888888888889\t42\t46\t92\ntotal\t72\t1000000000000003\t3001\t3300\t6601\nday\t2\t96\t40\ndaily\t1\t10\t104166666666667\t417\t458\t917\ndaily\t2\t20\t208333333333334\t833\t917\t1833\ndaily\t3\t10\t104166666666667\t417\t458\t917\ndaily\t4\t25\t260416666666667\t1042\t1146\t2292\ndaily\t5\t20\t208333333333334\t833\t917\t1833\ndaily\t6\t10\t104166666666667\t417\t458\t917\ndaily\t7\t1\t10416666666667\t42\t46\t92\ntotal\t96\t1000000000000003\t4001\t4400\t8801\nfund\t2\t40\t350000000\ncontribution\t1\t6\t50000000\t100000000\ncontribution\t2\t8\t50000000\t100000000\ncontribution\t3\t6\t50000000\t100000000\ncontribution\t4\t14\t50000000\t100000000\ncontribution\t5\t8\t50000000\t100000000\ncontribution\t6\t6\t50000000\t100000000\ncontribution\t7\t1\t50000000\t100000000\n")
    -- groups of three and of two, one member of three covered
    ∷ ("period\t7\t3\nmember\t1\t17\t1\t31\nmember\t2\t1\t1\t31\nmember\t3\t17\t1\t31\nmember\t4\t0\t1\t31\nmember\t5\t1\t1\t31\nmember\t6\t17\t1\t31\nmember\t7\t0\t1\t31\nday\t3\t8\nacct\t1\t0\tH\t20\t0\t0\t20\t0\t20\nacct\t2\t0\tH\t10\t0\t0\t10\t0\t10\nacct\t3\t0\tH\t20\t0\t0\t20\t0\t20\nacct\t4\t0\tH\t25\t0\t0\t25\t0\t25\nacct\t5\t0\tH\t10\t0\t0\t10\t0\t10\nacct\t6\t0\tH\t0\t15\t0\t0\t0\t0\nacct\t6\t1\tR\t5\t0\t0\t5\t0\t5\nacct\t7\t0\tH\t1\t0\t0\t1\t0\t1\nend\n" gives "day\t3\t86\t30\ndaily\t1\t20\t232558139534884\t698\t767\t1535\ndaily\t2\t10\t116279069767442\t349\t384\t767\ndaily\t3\t20\t232558139534884\t698\t767\t1535\ndaily\t4\t25\t290697674418605\t872\t959\t1919\ndaily\t5\t10\t116279069767442\t349\t384\t767\ndaily\t6\t0\t0\t0\t0\t0\ndaily\t7\t1\t11627906976745\t35\t38\t77\ntotal\t86\t1000000000000002\t3001\t3299\t6600\nfund\t1\t30\t350000000\ncontribution\t1\t8\t50000000\t100000000\ncontribution\t2\t4\t50000000\t100000000\ncontribution\t3\t8\t50000000\t100000000\ncontribution\t4\t10\t50000000\t100000000\ncontribution\t5\t4\t50000000\t100000000\ncontribution\t6\t0\t50000000\t100000000\ncontribution\t7\t1\t50000000\t100000000\n")
    -- a stress -0
    ∷ ("period\t2\t1\nmember\t1\t0\t1\t31\nmember\t2\t0\t1\t31\nday\t3\t2\nacct\t1\t0\tH\t390000000\t0\t0\t-0\nacct\t2\t0\tH\t10000000\t0\t0\t0\nend\n" gives "refused\t9\t5\n")
    -- a stress 01
    ∷ ("period\t2\t1\nmember\t1\t0\t1\t31\nmember\t2\t0\t1\t31\nday\t3\t2\nacct\t1\t0\tH\t390000000\t0\t0\t01\nacct\t2\t0\tH\t10000000\t0\t0\t0\nend\n" gives "refused\t9\t5\n")
    -- a stress empty
    ∷ ("period\t2\t1\nmember\t1\t0\t1\t31\nmember\t2\t0\t1\t31\nday\t3\t2\nacct\t1\t0\tH\t390000000\t0\t0\t\nacct\t2\t0\tH\t10000000\t0\t0\t0\nend\n" gives "refused\t9\t5\n")
    -- a stress 10000000000000
    ∷ ("period\t2\t1\nmember\t1\t0\t1\t31\nmember\t2\t0\t1\t31\nday\t3\t2\nacct\t1\t0\tH\t390000000\t0\t0\t10000000000000\nacct\t2\t0\tH\t10000000\t0\t0\t0\nend\n" gives "refused\t9\t5\n")
    -- a stress +1
    ∷ ("period\t2\t1\nmember\t1\t0\t1\t31\nmember\t2\t0\t1\t31\nday\t3\t2\nacct\t1\t0\tH\t390000000\t0\t0\t+1\nacct\t2\t0\tH\t10000000\t0\t0\t0\nend\n" gives "refused\t9\t5\n")
    -- a minus in k
    ∷ ("period\t2\t-1\nmember\t1\t0\t1\t31\nmember\t2\t0\t1\t31\nday\t3\t2\nacct\t1\t0\tH\t390000000\t0\t0\t0\nacct\t2\t0\tH\t10000000\t0\t0\t0\nend\n" gives "refused\t9\t1\n")
    -- a minus in a member line's number
    ∷ ("period\t2\t1\nmember\t-1\t0\t1\t31\nmember\t2\t0\t1\t31\nday\t3\t2\nacct\t1\t0\tH\t390000000\t0\t0\t0\nacct\t2\t0\tH\t10000000\t0\t0\t0\nend\n" gives "refused\t9\t2\n")
    -- a minus in a group
    ∷ ("period\t2\t1\nmember\t1\t-1\t1\t31\nmember\t2\t0\t1\t31\nday\t3\t2\nacct\t1\t0\tH\t390000000\t0\t0\t0\nacct\t2\t0\tH\t10000000\t0\t0\t0\nend\n" gives "refused\t9\t2\n")
    -- a minus in a day's number
    ∷ ("period\t2\t1\nmember\t1\t0\t1\t31\nmember\t2\t0\t1\t31\nday\t-3\t2\nacct\t1\t0\tH\t390000000\t0\t0\t0\nacct\t2\t0\tH\t10000000\t0\t0\t0\nend\n" gives "refused\t9\t4\n")
    -- a minus in a count
    ∷ ("period\t2\t1\nmember\t1\t0\t1\t31\nmember\t2\t0\t1\t31\nday\t3\t-2\nacct\t1\t0\tH\t390000000\t0\t0\t0\nacct\t2\t0\tH\t10000000\t0\t0\t0\nend\n" gives "refused\t9\t4\n")
    -- a minus in an account's member
    ∷ ("period\t2\t1\nmember\t1\t0\t1\t31\nmember\t2\t0\t1\t31\nday\t3\t2\nacct\t-1\t0\tH\t1\t0\t0\t0\nacct\t2\t0\tH\t10000000\t0\t0\t0\nend\n" gives "refused\t9\t5\n")
    -- a minus in an account's number
    ∷ ("period\t2\t1\nmember\t1\t0\t1\t31\nmember\t2\t0\t1\t31\nday\t3\t2\nacct\t1\t-1\tH\t1\t0\t0\t0\nacct\t2\t0\tH\t10000000\t0\t0\t0\nend\n" gives "refused\t9\t5\n")
    -- a leading zero in n
    ∷ ("period\t02\t1\nmember\t1\t0\t1\t31\nmember\t2\t0\t1\t31\nday\t3\t2\nacct\t1\t0\tH\t390000000\t0\t0\t0\nacct\t2\t0\tH\t10000000\t0\t0\t0\nend\n" gives "refused\t9\t1\n")
    -- a leading zero in a group
    ∷ ("period\t2\t1\nmember\t1\t00\t1\t31\nmember\t2\t0\t1\t31\nday\t3\t2\nacct\t1\t0\tH\t390000000\t0\t0\t0\nacct\t2\t0\tH\t10000000\t0\t0\t0\nend\n" gives "refused\t9\t2\n")
    -- a leading zero in a day's number
    ∷ ("period\t2\t1\nmember\t1\t0\t1\t31\nmember\t2\t0\t1\t31\nday\t03\t2\nacct\t1\t0\tH\t390000000\t0\t0\t0\nacct\t2\t0\tH\t10000000\t0\t0\t0\nend\n" gives "refused\t9\t4\n")
    -- a leading zero in a count
    ∷ ("period\t2\t1\nmember\t1\t0\t1\t31\nmember\t2\t0\t1\t31\nday\t3\t02\nacct\t1\t0\tH\t390000000\t0\t0\t0\nacct\t2\t0\tH\t10000000\t0\t0\t0\nend\n" gives "refused\t9\t4\n")
    -- a leading zero in an account's member
    ∷ ("period\t2\t1\nmember\t1\t0\t1\t31\nmember\t2\t0\t1\t31\nday\t3\t2\nacct\t01\t0\tH\t1\t0\t0\t0\nacct\t2\t0\tH\t10000000\t0\t0\t0\nend\n" gives "refused\t9\t5\n")
    -- a leading zero in an account's number
    ∷ ("period\t2\t1\nmember\t1\t0\t1\t31\nmember\t2\t0\t1\t31\nday\t3\t2\nacct\t1\t00\tH\t1\t0\t0\t0\nacct\t2\t0\tH\t10000000\t0\t0\t0\nend\n" gives "refused\t9\t5\n")
    -- a leading zero in a margin
    ∷ ("period\t2\t1\nmember\t1\t0\t1\t31\nmember\t2\t0\t1\t31\nday\t3\t2\nacct\t1\t0\tH\t1\t01\t0\t0\nacct\t2\t0\tH\t10000000\t0\t0\t0\nend\n" gives "refused\t9\t5\n")
    -- a leading zero in an extra
    ∷ ("period\t2\t1\nmember\t1\t0\t1\t31\nmember\t2\t0\t1\t31\nday\t3\t2\nacct\t1\t0\tH\t1\t1\t01\t0\nacct\t2\t0\tH\t10000000\t0\t0\t0\nend\n" gives "refused\t9\t5\n")
    -- nothing for n
    ∷ ("period\t\t1\nmember\t1\t0\t1\t31\nmember\t2\t0\t1\t31\nday\t3\t2\nacct\t1\t0\tH\t390000000\t0\t0\t0\nacct\t2\t0\tH\t10000000\t0\t0\t0\nend\n" gives "refused\t9\t1\n")
    -- nothing for a group
    ∷ ("period\t2\t1\nmember\t1\t\t1\t31\nmember\t2\t0\t1\t31\nday\t3\t2\nacct\t1\t0\tH\t390000000\t0\t0\t0\nacct\t2\t0\tH\t10000000\t0\t0\t0\nend\n" gives "refused\t9\t2\n")
    -- nothing for a day's number
    ∷ ("period\t2\t1\nmember\t1\t0\t1\t31\nmember\t2\t0\t1\t31\nday\t\t2\nacct\t1\t0\tH\t390000000\t0\t0\t0\nacct\t2\t0\tH\t10000000\t0\t0\t0\nend\n" gives "refused\t9\t4\n")
    -- nothing for a margin
    ∷ ("period\t2\t1\nmember\t1\t0\t1\t31\nmember\t2\t0\t1\t31\nday\t3\t2\nacct\t1\t0\tH\t1\t\t0\t0\nacct\t2\t0\tH\t10000000\t0\t0\t0\nend\n" gives "refused\t9\t5\n")
    -- nothing for an extra
    ∷ ("period\t2\t1\nmember\t1\t0\t1\t31\nmember\t2\t0\t1\t31\nday\t3\t2\nacct\t1\t0\tH\t1\t0\t\t0\nacct\t2\t0\tH\t10000000\t0\t0\t0\nend\n" gives "refused\t9\t5\n")
    -- nothing for an account's number
    ∷ ("period\t2\t1\nmember\t1\t0\t1\t31\nmember\t2\t0\t1\t31\nday\t3\t2\nacct\t1\t\tH\t1\t0\t0\t0\nacct\t2\t0\tH\t10000000\t0\t0\t0\nend\n" gives "refused\t9\t5\n")
    -- a client of kind AA
    ∷ ("period\t1\t1\nmember\t1\t0\t1\t31\nday\t3\t2\nacct\t1\t0\tH\t10\t0\t0\t0\nacct\t1\t1\tAA\t10\t0\t0\t0\nend\n" gives "refused\t5\t5\n")
    -- a client of kind UU
    ∷ ("period\t1\t1\nmember\t1\t0\t1\t31\nday\t3\t2\nacct\t1\t0\tH\t10\t0\t0\t0\nacct\t1\t1\tUU\t10\t0\t0\t0\nend\n" gives "refused\t5\t5\n")
    -- a client of kind RX
    ∷ ("period\t1\t1\nmember\t1\t0\t1\t31\nday\t3\t2\nacct\t1\t0\tH\t10\t0\t0\t0\nacct\t1\t1\tRX\t10\t0\t0\t0\nend\n" gives "refused\t5\t5\n")
    -- a client of kind XU
    ∷ ("period\t1\t1\nmember\t1\t0\t1\t31\nday\t3\t2\nacct\t1\t0\tH\t10\t0\t0\t0\nacct\t1\t1\tXU\t10\t0\t0\t0\nend\n" gives "refused\t5\t5\n")
    -- a client of kind AX
    ∷ ("period\t1\t1\nmember\t1\t0\t1\t31\nday\t3\t2\nacct\t1\t0\tH\t10\t0\t0\t0\nacct\t1\t1\tAX\t10\t0\t0\t0\nend\n" gives "refused\t5\t5\n")
    -- a client of kind A and CR
    ∷ ("period\t1\t1\nmember\t1\t0\t1\t31\nday\t3\t2\nacct\t1\t0\tH\t10\t0\t0\t0\nacct\t1\t1\tA\r\t10\t0\t0\t0\nend\n" gives "refused\t5\t5\n")
    -- a client of kind U and CR
    ∷ ("period\t1\t1\nmember\t1\t0\t1\t31\nday\t3\t2\nacct\t1\t0\tH\t10\t0\t0\t0\nacct\t1\t1\tU\r\t10\t0\t0\t0\nend\n" gives "refused\t5\t5\n")
    -- a kind of byte 255
    ∷ ("period\t1\t1\nmember\t1\t0\t1\t31\nday\t3\t2\nacct\t1\t0\tH\t10\t0\t0\t0\nacct\t1\t1\tÿ\t10\t0\t0\t0\nend\n" gives "refused\t9\t5\n")
    -- a group of all four members, clients of every kind
    ∷ ("period\t4\t3\nmember\t1\t26\t1\t31\nmember\t2\t26\t1\t31\nmember\t3\t26\t1\t31\nmember\t4\t26\t1\t31\nday\t13\t14\nacct\t1\t0\tH\t-262899683022\t0\t0\t-668629069849\t567526038730\t-863218408590\nacct\t2\t0\tH\t-346605624023\t616466234476\t0\t501347962222\t-963071858498\t-653111635317\nacct\t2\t1\tR\t-432304380642\t188938951965\t0\t-857350163596\t144632401607\t-648863850673\nacct\t2\t2\tR\t-432304380642\t188938951965\t0\t-857350163596\t144632401607\t-648863850673\nacct\t2\t4\tR\t514477493977\t605846778877\t0\t-110576346448\t-278584670675\t-168457334601\nacct\t2\t5\tA\t645405390379\t789754674057\t578186029328\t1000000000000\t218111238757\t-144349283678\nacct\t2\t6\tR\t645405390379\t789754674057\t578186029328\t1000000000000\t218111238757\t-144349283678\nacct\t2\t7\tU\t-515256285254\t484743714748\t484743714748\t397475177865\t-1000000000000\t-1000000000000\nacct\t2\t8\tR\t165165596453\t658362864412\t0\t798964899690\t456741760665\t1000000000000\nacct\t2\t9\tR\t165165596453\t658362864412\t0\t798964899690\t456741760665\t1000000000000\nacct\t2\t10\tA\t476103379618\t718676592968\t0\t571407212819\t-242573213351\t80482904064\nacct\t2\t11\tU\t905277672245\t0\t0\t1000000000000\t279297138232\t1000000000000\nacct\t3\t0\tH\t79063012331\t847770741368\t0\t-701352662683\t136668072040\t-768707729034\nacct\t4\t0\tH\t992053526993\t271218593446\t0\t720834933547\t1000000000000\t861118431922\nend\n" gives "day\t13\t3752491681240\t2191145079813\ndaily\t1\t600318725568\t159978695907363\t35053653241232\t38559018565355\t77118037130710\ndaily\t2\t3152172955672\t840021304092638\t184060854740068\t202466940214075\t404933880428150\ndaily\t3\t0\t0\t0\t0\t0\ndaily\t4\t0\t0\t0\t0\t0\ntotal\t3752491681240\t1000000000000001\t219114507981300\t241025958779430\t482051917558860\nfund\t1\t2191145079813\t2410359587795\ncontribution\t1\t385590185654\t385590185654\t771180371308\ncontribution\t2\t2024669402141\t2024669402141\t4049338804282\ncontribution\t3\t0\t50000000\t100000000\ncontribution\t4\t0\t50000000\t100000000\n")
    -- three groups of one member each, clients of every kind
    ∷ ("period\t3\t3\nmember\t1\t1\t1\t31\nmember\t2\t26\t1\t31\nmember\t3\t8\t1\t31\nday\t7\t12\nacct\t1\t0\tH\t-91027911\t0\t0\t-5485766507\t-980649862\t-91027910\nacct\t2\t0\tH\t182943247133\t986453991067\t254671763214\t182943247131\t-803510743935\t183106387534\nacct\t3\t0\tH\t9577856221\t1000000000000\t1000000000000\t-599061355854\t9647489845\t-990422143779\nacct\t3\t2\tR\t-51\t0\t0\t-851950650\t49459260\t-808376403\nacct\t3\t3\tR\t-913313674\t0\t0\t666621999409\t-709128570379\t-913313674\nacct\t3\t4\tR\t-913313674\t0\t0\t666621999409\t-709128570379\t-913313674\nacct\t3\t5\tU\t180737654437\t0\t0\t180737646860\t180737654949\t34077986732\nacct\t3\t6\tU\t-4676599394\t0\t0\t-3925448573\t-4814744214\t-1000000000000\nacct\t3\t7\tR\t-150645797\t13730162\t0\t-73858030\t-164375957\t-150125420\nacct\t3\t8\tA\t-766100964292\t0\t0\t-286797764838\t-1000000000000\t-765697723105\nacct\t3\t9\tR\t959433879\t1000000000000\t0\t-999040566121\t-25097760663\t959433888\nacct\t3\t10\tR\t-94240\t515266590227\t18577041007\t-515266684466\t-93946\t-94220\nend\n" gives "day\t7\t4052379119240\t2713378790643\ndaily\t1\t5394738596\t1331252194640\t361219146993\t397341061693\t794682123385\ndaily\t2\t254671763215\t62844999374778\t17052228840149\t18757451724164\t37514903448329\ndaily\t3\t3792312617429\t935823748430583\t253924431077157\t279316874184873\t558633748369746\ntotal\t4052379119240\t1000000000000001\t271337879064299\t298471666970730\t596943333941460\nfund\t1\t2713378790643\t2984716669708\ncontribution\t1\t3973410617\t3973410617\t7946821234\ncontribution\t2\t187574517242\t187574517242\t375149034484\ncontribution\t3\t2793168741849\t2793168741849\t5586337483698\n")
    -- one member, eight scenarios
    ∷ ("period\t1\t8\nmember\t1\t16\t1\t31\nday\t27\t1\nacct\t1\t0\tH\t-3696\t4\t4\t-3697\t-3693\t-3690\t-347857106775\t-3697\t-6736\t-3698\t-137704463294\nend\n" gives "day\t27\t347857103079\t347857103079\ndaily\t1\t347857103079\t1000000000000000\t34785710307900\t38264281338690\t76528562677380\ntotal\t347857103079\t1000000000000000\t34785710307900\t38264281338690\t76528562677380\nfund\t1\t347857103079\t382642813387\ncontribution\t1\t382642813387\t382642813387\t765285626774\n")
    -- two members that lose a dollar each, their shares rounded up
    ∷ ("period\t3\t2\nmember\t1\t0\t1\t31\nmember\t2\t0\t1\t31\nmember\t3\t0\t1\t31\nday\t17\t7\nacct\t1\t0\tH\t-429819688079\t920325752744\t0\t276879373589\t-53050968671\nacct\t1\t1\tA\t330510334149\t667835026230\t421378311189\t171425628615\t-529496882722\nacct\t1\t3\tR\t-984170900066\t15829099935\t0\t-1000000000000\t-1000000000000\nacct\t2\t0\tH\t-51920521793\t866757264405\t0\t-918677786199\t-809520553084\nacct\t2\t3149\tR\t-177683625256\t0\t0\t194329398844\t-170390318670\nacct\t3\t0\tH\t-75848260336\t924151739663\t0\t-1000000000000\t168639031732\nacct\t3\t1\tR\t770964685646\t0\t0\t28981105392\t-77498434271\nend\n" gives "day\t17\t848463119920\t741983580255\ndaily\t1\t1\t1179\t87\t96\t192\ndaily\t2\t1\t1179\t87\t96\t192\ndaily\t3\t848463119918\t999999999997643\t74198358025325\t81618193827858\t163236387655715\ntotal\t848463119920\t1000000000000001\t74198358025499\t81618193828050\t163236387656099\nfund\t1\t741983580255\t816281938279\ncontribution\t1\t1\t50000000\t100000000\ncontribution\t2\t1\t50000000\t100000000\ncontribution\t3\t816181938279\t816181938279\t1632363876558\n")
    -- amounts at their limits, one member of a group of four loses
    ∷ ("period\t4\t3\nmember\t1\t11\t1\t31\nmember\t2\t11\t1\t31\nmember\t3\t11\t1\t31\nmember\t4\t11\t1\t31\nday\t30\t5\nacct\t1\t0\tH\t999999999999\t999999999999\t999999999999\t0\t-1\t0\nacct\t2\t0\tH\t-1000000000000\t1\t0\t-1000000000000\t-1000000000000\t-1\nacct\t3\t0\tH\t-1\t999999999999\t0\t-1\t-1\t0\nacct\t4\t0\tH\t0\t999999999999\t0\t0\t999999999999\t0\nacct\t4\t15563\tA\t-1\t0\t0\t-1\t-1\t999999999998\nend\n" gives "day\t30\t1000000000000\t1000000000000\ndaily\t1\t1000000000000\t1000000000000000\t100000000000000\t110000000000000\t220000000000000\ndaily\t2\t0\t0\t0\t0\t0\ndaily\t3\t0\t0\t0\t0\t0\ndaily\t4\t0\t0\t0\t0\t0\ntotal\t1000000000000\t1000000000000000\t100000000000000\t110000000000000\t220000000000000\nfund\t1\t1000000000000\t1100150000000\ncontribution\t1\t1100000000000\t1100000000000\t2200000000000\ncontribution\t2\t0\t50000000\t100000000\ncontribution\t3\t0\t50000000\t100000000\ncontribution\t4\t0\t50000000\t100000000\n")
    -- amounts at their limits, a group of two among four members
    ∷ ("period\t4\t2\nmember\t1\t30\t1\t31\nmember\t2\t5\t1\t31\nmember\t3\t12\t1\t31\nmember\t4\t30\t1\t31\nday\t11\t9\nacct\t1\t0\tH\t1000000000000\t1\t1\t1\t1000000000000\nacct\t1\t9194\tU\t0\t1\t1\t0\t0\nacct\t1\t10449\tU\t0\t0\t0\t0\t999999999999\nacct\t1\t27350\tA\t0\t0\t0\t-999999999999\t-999999999999\nacct\t1\t32255\tA\t0\t0\t0\t999999999999\t1\nacct\t1\t46913\tR\t1000000000000\t0\t0\t999999999999\t999999999999\nacct\t2\t0\tH\t0\t2\t0\t-1\t-1\nacct\t3\t0\tH\t1000000000000\t1\t0\t1000000000000\t1000000000000\nacct\t4\t0\tH\t-1\t0\t0\t-1\t-2\nend\n" gives "day\t11\t2499999999999\t2499999999998\ndaily\t1\t2499999999998\t999999999999600\t249999999999700\t274999999999670\t549999999999340\ndaily\t2\t0\t0\t0\t0\t0\ndaily\t3\t0\t0\t0\t0\t0\ndaily\t4\t1\t401\t100\t110\t220\ntotal\t2499999999999\t1000000000000001\t249999999999800\t274999999999780\t549999999999560\nfund\t1\t2499999999998\t2750149999997\ncontribution\t1\t2749999999997\t2749999999997\t5499999999994\ncontribution\t2\t0\t50000000\t100000000\ncontribution\t3\t0\t50000000\t100000000\ncontribution\t4\t2\t50000000\t100000000\n")
    -- a day of small amounts and one of large, twelve clients of one member
    ∷ ("period\t2\t1\nmember\t1\t0\t1\t31\nmember\t2\t0\t1\t31\nday\t6\t14\nacct\t1\t0\tH\t100\t513969\t0\t1703\nacct\t1\t1\tR\t0\t0\t0\t9336\nacct\t1\t2\tR\t6\t3\t3\t-1567\nacct\t1\t4\tR\t31\t0\t0\t-188\nacct\t1\t5\tR\t-93534\t7756\t0\t-94222\nacct\t1\t6\tU\t60137\t515\t0\t59622\nacct\t1\t7\tA\t-8534\t59\t0\t-8593\nacct\t1\t8\tR\t22\t0\t0\t-957083\nacct\t1\t9\tA\t22\t0\t0\t-957083\nacct\t1\t10\tU\t-46\t76355\t0\t-76401\nacct\t1\t11\tR\t-23730\t51902\t51902\t-75632\nacct\t1\t12\tR\t0\t0\t0\t10\nacct\t1\t13\tA\t-7421\t1557\t0\t-8979\nacct\t2\t0\tH\t0\t982\t190\t9356\nday\t14\t13\nacct\t1\t0\tH\t953254430163\t0\t0\t1000000000000\nacct\t1\t1\tR\t418510812807\t749350838531\t749350838531\t196659524676\nacct\t1\t2\tR\t947064566301\t85405521710\t12238610127\t861659044590\nacct\t1\t3\tR\t373509261788\t974962331456\t0\t-601453069668\nacct\t1\t5\tU\t319774531444\t3\t0\t1000000000000\nacct\t2\t0\tH\t822961047001\t0\t0\t837148318357\nacct\t2\t1\tA\t708269794456\t0\t0\t1000000000000\nacct\t2\t3\tR\t-13375383878\t226672834982\t159037531670\t-240048218861\nacct\t2\t4\tR\t-13375383878\t226672834982\t159037531670\t-240048218861\nacct\t2\t5\tA\t663738635235\t914481008604\t518146117068\t-250742373370\nacct\t2\t6\tR\t-731694166136\t977905555724\t620800860695\t-742324093881\nacct\t2\t7\tR\t-116995082496\t842373208735\t842373208735\t-959368291232\nacct\t2\t8\tU\t538381967980\t0\t0\t-331902167388\nend\n" gives "day\t6\t1452144\t1452144\ndaily\t1\t1452144\t1000000000000000\t145214400\t159735840\t319471680\ndaily\t2\t0\t0\t0\t0\t0\ntotal\t1452144\t1000000000000000\t145214400\t159735840\t319471680\nday\t14\t2896959412954\t2662869514695\ndaily\t1\t234089898259\t80805377255977\t21517417571837\t23669159329021\t47338318658041\ndaily\t2\t2662869514695\t919194622744024\t244769533897663\t269246487287429\t538492974574859\ntotal\t2896959412954\t1000000000000001\t266286951469500\t292915646616450\t585831293232900\nfund\t2\t2662869514695\t2929156466166\ncontribution\t1\t1582924029728\t1582924029728\t3165848059456\ncontribution\t2\t1346232436438\t1346232436438\t2692464872876\n")
    -- five members that lose a few dollars: cents rounded up and down on four days
    ∷ ("period\t5\t1\nmember\t1\t0\t1\t31\nmember\t2\t0\t1\t31\nmember\t3\t0\t1\t31\nmember\t4\t0\t1\t31\nmember\t5\t0\t1\t31\nday\t1\t5\nacct\t1\t0\tH\t0\t0\t0\t-4\nacct\t2\t0\tH\t0\t0\t0\t-6\nacct\t3\t0\tH\t0\t0\t0\t-4\nacct\t4\t0\tH\t0\t0\t0\t-1\nacct\t5\t0\tH\t0\t0\t0\t-1\nday\t2\t5\nacct\t1\t0\tH\t0\t0\t0\t-2\nacct\t2\t0\tH\t0\t0\t0\t-12\nacct\t3\t0\tH\t0\t0\t0\t-7\nacct\t4\t0\tH\t0\t0\t0\t-14\nacct\t5\t0\tH\t0\t0\t0\t-5\nday\t3\t5\nacct\t1\t0\tH\t0\t0\t0\t-12\nacct\t2\t0\tH\t0\t0\t0\t-27\nacct\t3\t0\tH\t0\t0\t0\t-96\nacct\t4\t0\tH\t0\t0\t0\t-57\nacct\t5\t0\tH\t0\t0\t0\t-8\nday\t4\t5\nacct\t1\t0\tH\t0\t0\t0\t-3\nacct\t2\t0\tH\t0\t0\t0\t-2\nacct\t3\t0\tH\t0\t0\t0\t-1\nacct\t4\t0\tH\t0\t0\t0\t-1\nacct\t5\t0\tH\t0\t0\t0\t-1\nend\n" gives "day\t1\t16\t6\ndaily\t1\t4\t250000000000000\t150\t165\t330\ndaily\t2\t6\t375000000000000\t225\t248\t495\ndaily\t3\t4\t250000000000000\t150\t165\t330\ndaily\t4\t1\t62500000000000\t38\t41\t83\ndaily\t5\t1\t62500000000000\t38\t41\t83\ntotal\t16\t1000000000000000\t601\t660\t1321\nday\t2\t40\t14\ndaily\t1\t2\t50000000000000\t70\t77\t154\ndaily\t2\t12\t300000000000000\t420\t462\t924\ndaily\t3\t7\t175000000000000\t245\t270\t539\ndaily\t4\t14\t350000000000000\t490\t539\t1078\ndaily\t5\t5\t125000000000000\t175\t193\t385\ntotal\t40\t1000000000000000\t1400\t1541\t3080\nday\t3\t200\t96\ndaily\t1\t12\t60000000000000\t576\t634\t1267\ndaily\t2\t27\t135000000000000\t1296\t1426\t2851\ndaily\t3\t96\t480000000000000\t4608\t5069\t10138\ndaily\t4\t57\t285000000000000\t2736\t3010\t6019\ndaily\t5\t8\t40000000000000\t384\t422\t845\ntotal\t200\t1000000000000000\t9600\t10561\t21120\nday\t4\t8\t96\ndaily\t1\t3\t375000000000000\t3600\t3960\t7920\ndaily\t2\t2\t250000000000000\t2400\t2640\t5280\ndaily\t3\t1\t125000000000000\t1200\t1320\t2640\ndaily\t4\t1\t125000000000000\t1200\t1320\t2640\ndaily\t5\t1\t125000000000000\t1200\t1320\t2640\ntotal\t8\t1000000000000000\t9600\t10560\t21120\nfund\t4\t96\t250000000\ncontribution\t1\t20\t50000000\t100000000\ncontribution\t2\t28\t50000000\t100000000\ncontribution\t3\t28\t50000000\t100000000\ncontribution\t4\t22\t50000000\t100000000\ncontribution\t5\t10\t50000000\t100000000\n")
    -- members whose margins cover their losses, and a group, on two days
    ∷ ("period\t6\t1\nmember\t1\t0\t1\t31\nmember\t2\t0\t1\t31\nmember\t3\t1\t1\t31\nmember\t4\t0\t1\t31\nmember\t5\t1\t1\t31\nmember\t6\t0\t1\t31\nday\t1\t6\nacct\t1\t0\tH\t0\t0\t0\t-100\nacct\t2\t0\tH\t0\t110\t0\t0\nacct\t3\t0\tH\t0\t200\t0\t-100\nacct\t4\t0\tH\t0\t0\t0\t0\nacct\t5\t0\tH\t0\t0\t0\t0\nacct\t6\t0\tH\t0\t110\t0\t-150\nday\t2\t6\nacct\t1\t0\tH\t0\t0\t0\t-100\nacct\t2\t0\tH\t0\t200\t0\t-150\nacct\t3\t0\tH\t0\t0\t0\t-150\nacct\t4\t0\tH\t0\t110\t0\t-150\nacct\t5\t0\tH\t0\t110\t0\t0\nacct\t6\t0\tH\t0\t200\t0\t-150\nend\n" gives "day\t1\t140\t100\ndaily\t1\t100\t714285714285715\t7143\t7857\t15714\ndaily\t2\t0\t0\t0\t0\t0\ndaily\t3\t0\t0\t0\t0\t0\ndaily\t4\t0\t0\t0\t0\t0\ndaily\t5\t0\t0\t0\t0\t0\ndaily\t6\t40\t285714285714286\t2857\t3143\t6286\ntotal\t140\t1000000000000001\t10000\t11000\t22000\nday\t2\t290\t150\ndaily\t1\t100\t344827586206897\t5172\t5690\t11379\ndaily\t2\t0\t0\t0\t0\t0\ndaily\t3\t150\t517241379310345\t7759\t8534\t17069\ndaily\t4\t40\t137931034482759\t2069\t2276\t4552\ndaily\t5\t0\t0\t0\t0\t0\ndaily\t6\t0\t0\t0\t0\t0\ntotal\t290\t1000000000000001\t15000\t16500\t33000\nfund\t2\t150\t300000000\ncontribution\t1\t88\t50000000\t100000000\ncontribution\t2\t0\t50000000\t100000000\ncontribution\t3\t43\t50000000\t100000000\ncontribution\t4\t12\t50000000\t100000000\ncontribution\t5\t0\t50000000\t100000000\ncontribution\t6\t24\t50000000\t100000000\n")
    -- two days of one T and unlike cents
    ∷ ("period\t2\t1\nmember\t1\t0\t1\t31\nmember\t2\t0\t1\t31\nday\t1\t2\nacct\t1\t0\tH\t0\t0\t0\t-219\nacct\t2\t0\tH\t0\t0\t0\t-581\nday\t2\t2\nacct\t1\t0\tH\t0\t0\t0\t-576\nacct\t2\t0\tH\t0\t0\t0\t-224\nend\n" gives "day\t1\t800\t581\ndaily\t1\t219\t273750000000000\t15905\t17495\t34991\ndaily\t2\t581\t726250000000000\t42195\t46415\t92829\ntotal\t800\t1000000000000000\t58100\t63910\t127820\nday\t2\t800\t581\ndaily\t1\t576\t720000000000000\t41832\t46015\t92030\ndaily\t2\t224\t280000000000000\t16268\t17895\t35790\ntotal\t800\t1000000000000000\t58100\t63910\t127820\nfund\t2\t581\t100000000\ncontribution\t1\t318\t50000000\t100000000\ncontribution\t2\t322\t50000000\t100000000\n")
    -- a day of own Max EUL 0 between two of 13
    ∷ ("period\t1\t2\nmember\t1\t0\t1\t31\nday\t1\t2\nacct\t1\t0\tH\t0\t55\t0\t-50\t0\nacct\t1\t1\tU\t0\t5\t0\t0\t-50\nday\t2\t2\nacct\t1\t0\tH\t0\t55\t0\t-50\t0\nacct\t1\t1\tU\t0\t5\t0\t0\t-10\nday\t3\t2\nacct\t1\t0\tH\t0\t55\t0\t-50\t0\nacct\t1\t1\tU\t0\t5\t0\t0\t-50\nend\n" gives "day\t1\t63\t13\ndaily\t1\t63\t1000000000000000\t1300\t1430\t2860\ntotal\t63\t1000000000000000\t1300\t1430\t2860\nday\t2\t3\t13\ndaily\t1\t3\t1000000000000000\t1300\t1430\t2860\ntotal\t3\t1000000000000000\t1300\t1430\t2860\nday\t3\t63\t13\ndaily\t1\t63\t1000000000000000\t1300\t1430\t2860\ntotal\t63\t1000000000000000\t1300\t1430\t2860\nfund\t3\t13\t50000000\ncontribution\t1\t15\t50000000\t100000000\n")
    -- four members of one group that lose a dollar each on six days
    ∷ ("period\t4\t1\nmember\t1\t1\t1\t31\nmember\t2\t1\t1\t31\nmember\t3\t1\t1\t31\nmember\t4\t1\t1\t31\nday\t1\t4\nacct\t1\t0\tH\t0\t0\t0\t-1\nacct\t2\t0\tH\t0\t0\t0\t-1\nacct\t3\t0\tH\t0\t0\t0\t-1\nacct\t4\t0\tH\t0\t0\t0\t-1\nday\t2\t4\nacct\t1\t0\tH\t0\t0\t0\t-1\nacct\t2\t0\tH\t0\t0\t0\t-1\nacct\t3\t0\tH\t0\t0\t0\t-1\nacct\t4\t0\tH\t0\t0\t0\t-1\nday\t3\t4\nacct\t1\t0\tH\t0\t0\t0\t-1\nacct\t2\t0\tH\t0\t0\t0\t-1\nacct\t3\t0\tH\t0\t0\t0\t-1\nacct\t4\t0\tH\t0\t0\t0\t-1\nday\t4\t4\nacct\t1\t0\tH\t0\t0\t0\t-1\nacct\t2\t0\tH\t0\t0\t0\t-1\nacct\t3\t0\tH\t0\t0\t0\t-1\nacct\t4\t0\tH\t0\t0\t0\t-1\nday\t5\t4\nacct\t1\t0\tH\t0\t0\t0\t-1\nacct\t2\t0\tH\t0\t0\t0\t-1\nacct\t3\t0\tH\t0\t0\t0\t-1\nacct\t4\t0\tH\t0\t0\t0\t-1\nday\t6\t4\nacct\t1\t0\tH\t0\t0\t0\t-1\nacct\t2\t0\tH\t0\t0\t0\t-1\nacct\t3\t0\tH\t0\t0\t0\t-1\nacct\t4\t0\tH\t0\t0\t0\t-1\nend\n" gives "day\t1\t4\t4\ndaily\t1\t1\t250000000000000\t100\t110\t220\ndaily\t2\t1\t250000000000000\t100\t110\t220\ndaily\t3\t1\t250000000000000\t100\t110\t220\ndaily\t4\t1\t250000000000000\t100\t110\t220\ntotal\t4\t1000000000000000\t400\t440\t880\nday\t2\t4\t4\ndaily\t1\t1\t250000000000000\t100\t110\t220\ndaily\t2\t1\t250000000000000\t100\t110\t220\ndaily\t3\t1\t250000000000000\t100\t110\t220\ndaily\t4\t1\t250000000000000\t100\t110\t220\ntotal\t4\t1000000000000000\t400\t440\t880\nday\t3\t4\t4\ndaily\t1\t1\t250000000000000\t100\t110\t220\ndaily\t2\t1\t250000000000000\t100\t110\t220\ndaily\t3\t1\t250000000000000\t100\t110\t220\ndaily\t4\t1\t250000000000000\t100\t110\t220\ntotal\t4\t1000000000000000\t400\t440\t880\nday\t4\t4\t4\ndaily\t1\t1\t250000000000000\t100\t110\t220\ndaily\t2\t1\t250000000000000\t100\t110\t220\ndaily\t3\t1\t250000000000000\t100\t110\t220\ndaily\t4\t1\t250000000000000\t100\t110\t220\ntotal\t4\t1000000000000000\t400\t440\t880\nday\t5\t4\t4\ndaily\t1\t1\t250000000000000\t100\t110\t220\ndaily\t2\t1\t250000000000000\t100\t110\t220\ndaily\t3\t1\t250000000000000\t100\t110\t220\ndaily\t4\t1\t250000000000000\t100\t110\t220\ntotal\t4\t1000000000000000\t400\t440\t880\nday\t6\t4\t4\ndaily\t1\t1\t250000000000000\t100\t110\t220\ndaily\t2\t1\t250000000000000\t100\t110\t220\ndaily\t3\t1\t250000000000000\t100\t110\t220\ndaily\t4\t1\t250000000000000\t100\t110\t220\ntotal\t4\t1000000000000000\t400\t440\t880\nfund\t6\t4\t200000000\ncontribution\t1\t2\t50000000\t100000000\ncontribution\t2\t2\t50000000\t100000000\ncontribution\t3\t2\t50000000\t100000000\ncontribution\t4\t2\t50000000\t100000000\n")
    -- no day, four members, two of them in one group
    ∷ ("period\t4\t3\nmember\t1\t32\t1\t31\nmember\t2\t1\t1\t31\nmember\t3\t32\t1\t31\nmember\t4\t0\t1\t31\nend\n" gives "fund\t0\t0\t200000000\ncontribution\t1\t0\t50000000\t100000000\ncontribution\t2\t0\t50000000\t100000000\ncontribution\t3\t0\t50000000\t100000000\ncontribution\t4\t0\t50000000\t100000000\n")
    -- no day, n and k at their limits, all members in group 32
    ∷ ("period\t32\t16\nmember\t1\t32\t1\t31\nmember\t2\t32\t1\t31\nmember\t3\t32\t1\t31\nmember\t4\t32\t1\t31\nmember\t5\t32\t1\t31\nmember\t6\t32\t1\t31\nmember\t7\t32\t1\t31\nmember\t8\t32\t1\t31\nmember\t9\t32\t1\t31\nmember\t10\t32\t1\t31\nmember\t11\t32\t1\t31\nmember\t12\t32\t1\t31\nmember\t13\t32\t1\t31\nmember\t14\t32\t1\t31\nmember\t15\t32\t1\t31\nmember\t16\t32\t1\t31\nmember\t17\t32\t1\t31\nmember\t18\t32\t1\t31\nmember\t19\t32\t1\t31\nmember\t20\t32\t1\t31\nmember\t21\t32\t1\t31\nmember\t22\t32\t1\t31\nmember\t23\t32\t1\t31\nmember\t24\t32\t1\t31\nmember\t25\t32\t1\t31\nmember\t26\t32\t1\t31\nmember\t27\t32\t1\t31\nmember\t28\t32\t1\t31\nmember\t29\t32\t1\t31\nmember\t30\t32\t1\t31\nmember\t31\t32\t1\t31\nmember\t32\t32\t1\t31\nend\n" gives "fund\t0\t0\t1600000000\ncontribution\t1\t0\t50000000\t100000000\ncontribution\t2\t0\t50000000\t100000000\ncontribution\t3\t0\t50000000\t100000000\ncontribution\t4\t0\t50000000\t100000000\ncontribution\t5\t0\t50000000\t100000000\ncontribution\t6\t0\t50000000\t100000000\ncontribution\t7\t0\t50000000\t100000000\ncontribution\t8\t0\t50000000\t100000000\ncontribution\t9\t0\t50000000\t100000000\ncontribution\t10\t0\t50000000\t100000000\ncontribution\t11\t0\t50000000\t100000000\ncontribution\t12\t0\t50000000\t100000000\ncontribution\t13\t0\t50000000\t100000000\ncontribution\t14\t0\t50000000\t100000000\ncontribution\t15\t0\t50000000\t100000000\ncontribution\t16\t0\t50000000\t100000000\ncontribution\t17\t0\t50000000\t100000000\ncontribution\t18\t0\t50000000\t100000000\ncontribution\t19\t0\t50000000\t100000000\ncontribution\t20\t0\t50000000\t100000000\ncontribution\t21\t0\t50000000\t100000000\ncontribution\t22\t0\t50000000\t100000000\ncontribution\t23\t0\t50000000\t100000000\ncontribution\t24\t0\t50000000\t100000000\ncontribution\t25\t0\t50000000\t100000000\ncontribution\t26\t0\t50000000\t100000000\ncontribution\t27\t0\t50000000\t100000000\ncontribution\t28\t0\t50000000\t100000000\ncontribution\t29\t0\t50000000\t100000000\ncontribution\t30\t0\t50000000\t100000000\ncontribution\t31\t0\t50000000\t100000000\ncontribution\t32\t0\t50000000\t100000000\n")
    -- two days of one T, the second with the lower Max EUL; groups of three and of one
    ∷ ("period\t6\t3\nmember\t1\t1\t1\t31\nmember\t2\t0\t1\t31\nmember\t3\t1\t1\t31\nmember\t4\t0\t1\t31\nmember\t5\t1\t1\t31\nmember\t6\t32\t1\t31\nday\t1\t6\nacct\t1\t0\tH\t0\t0\t0\t-100\t-100\t-100\nacct\t2\t0\tH\t0\t30\t0\t0\t-100\t-150\nacct\t3\t0\tH\t0\t30\t0\t-150\t0\t-150\nacct\t4\t0\tH\t0\t0\t0\t-100\t-100\t-100\nacct\t5\t0\tH\t0\t30\t0\t-150\t0\t0\nacct\t6\t0\tH\t0\t110\t0\t0\t0\t-100\nday\t2\t6\nacct\t1\t0\tH\t0\t0\t0\t-100\t-100\t-100\nacct\t2\t0\tH\t0\t0\t0\t-150\t-150\t-80\nacct\t3\t0\tH\t0\t110\t0\t-100\t-80\t-150\nacct\t4\t0\tH\t0\t30\t0\t-100\t-150\t-80\nacct\t5\t0\tH\t0\t0\t0\t-100\t-150\t0\nacct\t6\t0\tH\t0\t200\t0\t0\t0\t0\nend\n" gives "day\t1\t560\t340\ndaily\t1\t100\t178571428571429\t6071\t6679\t13357\ndaily\t2\t120\t214285714285715\t7286\t8014\t16029\ndaily\t3\t120\t214285714285715\t7286\t8014\t16029\ndaily\t4\t100\t178571428571429\t6071\t6679\t13357\ndaily\t5\t120\t214285714285715\t7286\t8014\t16029\ndaily\t6\t0\t0\t0\t0\t0\ntotal\t560\t1000000000000003\t34000\t37400\t74801\nday\t2\t560\t340\ndaily\t1\t100\t178571428571429\t6071\t6679\t13357\ndaily\t2\t150\t267857142857143\t9107\t10018\t20036\ndaily\t3\t40\t71428571428572\t2429\t2671\t5343\ndaily\t4\t120\t214285714285715\t7286\t8014\t16029\ndaily\t5\t150\t267857142857143\t9107\t10018\t20036\ndaily\t6\t0\t0\t0\t0\t0\ntotal\t560\t1000000000000002\t34000\t37400\t74801\nfund\t2\t340\t300000000\ncontribution\t1\t67\t50000000\t100000000\ncontribution\t2\t91\t50000000\t100000000\ncontribution\t3\t54\t50000000\t100000000\ncontribution\t4\t74\t50000000\t100000000\ncontribution\t5\t91\t50000000\t100000000\ncontribution\t6\t0\t50000000\t100000000\n")
    -- four days, of which the second and the third report the first one's and the fourth its own
    ∷ ("period\t4\t1\nmember\t1\t0\t1\t31\nmember\t2\t0\t1\t31\nmember\t3\t0\t1\t31\nmember\t4\t0\t1\t31\nday\t1\t4\nacct\t1\t0\tH\t0\t0\t0\t-257\nacct\t2\t0\tH\t0\t0\t0\t-85\nacct\t3\t0\tH\t0\t0\t0\t-403\nacct\t4\t0\tH\t0\t0\t0\t-55\nday\t2\t4\nacct\t1\t0\tH\t0\t0\t0\t-7\nacct\t2\t0\tH\t0\t0\t0\t-4\nacct\t3\t0\tH\t0\t0\t0\t0\nacct\t4\t0\tH\t0\t0\t0\t-5\nday\t3\t4\nacct\t1\t0\tH\t0\t0\t0\t-7\nacct\t2\t0\tH\t0\t0\t0\t-8\nacct\t3\t0\tH\t0\t0\t0\t0\nacct\t4\t0\tH\t0\t0\t0\t-1\nday\t4\t4\nacct\t1\t0\tH\t0\t0\t0\t-4384\nacct\t2\t0\tH\t0\t0\t0\t-2784\nacct\t3\t0\tH\t0\t0\t0\t-698\nacct\t4\t0\tH\t0\t0\t0\t-134\nend\n" gives "day\t1\t800\t403\ndaily\t1\t257\t321250000000000\t12946\t14241\t28482\ndaily\t2\t85\t106250000000000\t4282\t4710\t9420\ndaily\t3\t403\t503750000000000\t20301\t22331\t44662\ndaily\t4\t55\t68750000000000\t2771\t3048\t6095\ntotal\t800\t1000000000000000\t40300\t44330\t88659\nday\t2\t16\t403\ndaily\t1\t7\t437500000000000\t17631\t19394\t38789\ndaily\t2\t4\t250000000000000\t10075\t11083\t22165\ndaily\t3\t0\t0\t0\t0\t0\ndaily\t4\t5\t312500000000000\t12594\t13853\t27706\ntotal\t16\t1000000000000000\t40300\t44330\t88660\nday\t3\t16\t403\ndaily\t1\t7\t437500000000000\t17631\t19394\t38789\ndaily\t2\t8\t500000000000000\t20150\t22165\t44330\ndaily\t3\t0\t0\t0\t0\t0\ndaily\t4\t1\t62500000000000\t2519\t2771\t5541\ntotal\t16\t1000000000000000\t40300\t44330\t88660\nday\t4\t8000\t4384\ndaily\t1\t4384\t548000000000000\t240243\t264268\t528535\ndaily\t2\t2784\t348000000000000\t152563\t167820\t335639\ndaily\t3\t698\t87250000000000\t38250\t42075\t84151\ndaily\t4\t134\t16750000000000\t7343\t8078\t16155\ntotal\t8000\t1000000000000000\t438399\t482241\t964480\nfund\t4\t4384\t200000000\ncontribution\t1\t2103\t50000000\t100000000\ncontribution\t2\t1452\t50000000\t100000000\ncontribution\t3\t713\t50000000\t100000000\ncontribution\t4\t556\t50000000\t100000000\n")
    -- own Max EULs of 0, 3 and 1, two scenarios
    ∷ ("period\t1\t2\nmember\t1\t0\t1\t31\nday\t1\t2\nacct\t1\t0\tH\t0\t11\t0\t-10\t0\nacct\t1\t1\tU\t0\t1\t0\t0\t-2\nday\t2\t2\nacct\t1\t0\tH\t0\t11\t0\t-10\t0\nacct\t1\t1\tU\t0\t1\t0\t0\t-10\nday\t9\t1\nacct\t1\t0\tH\t0\t0\t0\t-1\t-1\nend\n" gives "day\t1\t1\t0\ndaily\t1\t1\t1000000000000000\t0\t0\t0\ntotal\t1\t1000000000000000\t0\t0\t0\nday\t2\t13\t3\ndaily\t1\t13\t1000000000000000\t300\t330\t660\ntotal\t13\t1000000000000000\t300\t330\t660\nday\t9\t1\t3\ndaily\t1\t1\t1000000000000000\t300\t330\t660\ntotal\t1\t1000000000000000\t300\t330\t660\nfund\t3\t3\t50000000\ncontribution\t1\t4\t50000000\t100000000\n")
    -- a day of one dollar after one of millions of millions; 6 on a third
    ∷ ("period\t2\t1\nmember\t1\t1\t1\t31\nmember\t2\t32\t1\t31\nday\t5\t14\nacct\t1\t0\tH\t1\t1000000000000\t1000000000000\t-999999999999\nacct\t1\t1\tR\t-1\t0\t0\t999999999999\nacct\t1\t2\tR\t-1\t0\t0\t999999999999\nacct\t1\t3\tR\t-1\t0\t0\t999999999999\nacct\t1\t4\tR\t0\t0\t0\t999999999999\nacct\t1\t5\tA\t1000000000000\t0\t0\t1000000000000\nacct\t1\t6\tU\t1\t0\t0\t1000000000000\nacct\t1\t7\tA\t-999999999999\t0\t0\t-1000000000000\nacct\t1\t8\tU\t999999999999\t0\t0\t-1\nacct\t1\t9\tU\t1\t0\t0\t2\nacct\t1\t11\tR\t1000000000000\t0\t0\t999999999999\nacct\t1\t12\tR\t1\t3\t0\t1\nacct\t1\t13\tR\t1\t3\t0\t1\nacct\t2\t0\tH\t999999999999\t1\t1\t0\nday\t9\t2\nacct\t1\t0\tH\t1\t0\t0\t0\nacct\t2\t0\tH\t2\t7\t0\t-5\nday\t11\t2\nacct\t1\t0\tH\t9999999999999\t615569881250\t0\t-1000000000000\nacct\t2\t0\tH\t-99471432150\t16823775266\t0\t-116295207415\nday\t26\t14\nacct\t1\t0\tH\t-39919692\t1\t1\t-39919691\nacct\t1\t4330\tR\t-1390\t2\t0\t363551681\nacct\t1\t18311\tU\t5\t633834292537\t0\t992575822903\nacct\t1\t29506\tR\t-1\t565697254\t406506698\t-565697255\nacct\t1\t38650\tU\t-88725393\t0\t0\t-88644674\nacct\t1\t38692\tU\t-58071957\t0\t0\t999941928043\nacct\t1\t42822\tR\t-58071957\t0\t0\t999941928043\nacct\t2\t0\tH\t82479258\t1\t0\t1000000000000\nacct\t2\t2\tR\t1000000000000\t0\t0\t1000000000000\nacct\t2\t3\tR\t1000000000000\t0\t0\t1000000000000\nacct\t2\t4\tR\t1\t434845092\t113827690\t137378635\nacct\t2\t5\tR\t1000000000000\t588853714047\t588853714047\t411146285956\nacct\t2\t6\tR\t1000000000000\t588853714047\t588853714047\t411146285956\nacct\t2\t7\tU\t1000000000000\t588853714047\t588853714047\t411146285956\nend\n" gives "day\t5\t3500000000001\t2500000000002\ndaily\t1\t2500000000002\t714285714286082\t178571428571663\t196428571428830\t392857142857659\ndaily\t2\t999999999999\t285714285713919\t71428571428537\t78571428571390\t157142857142781\ntotal\t3500000000001\t1000000000000001\t250000000000200\t275000000000220\t550000000000440\nday\t9\t1\t2500000000002\ndaily\t1\t1\t1000000000000000\t250000000000200\t275000000000220\t550000000000440\ndaily\t2\t0\t0\t0\t0\t0\ntotal\t1\t1000000000000000\t250000000000200\t275000000000220\t550000000000440\nrefused\t6\t23\n")
    -- two members, three scenarios: two days of a dollar or two between high ones
    ∷ ("period\t2\t3\nmember\t1\t0\t1\t31\nmember\t2\t0\t1\t31\nday\t17\t2\nacct\t1\t0\tH\t0\t999999999999\t0\t-999999999999\t999999999999\t-999999999999\nacct\t2\t0\tH\t-1\t999999999999\t507703335401\t-1000000000000\t0\t-1\nday\t23\t2\nacct\t1\t0\tH\t1\t0\t0\t0\t0\t0\nacct\t2\t0\tH\t239791355\t8409243506\t0\t-649746677\t8768209439\t293325546\nday\t28\t2\nacct\t1\t0\tH\t4\t32442624\t0\t385\t4\t-32442621\nacct\t2\t0\tH\t-57491423\t952\t0\t-57492376\t929655970474\t-13503539\nday\t29\t2\nacct\t1\t0\tH\t-739884033\t355876735003\t191587142011\t-356616619037\t-739884034\t-767335430\nacct\t2\t0\tH\t-537018870820\t462981129182\t462981129182\t-537018870829\t-1000000000000\t-985218780782\nend\n" gives "day\t17\t507703335401\t507703335401\ndaily\t1\t0\t0\t0\t0\t0\ndaily\t2\t507703335401\t1000000000000000\t50770333540100\t55847366894110\t111694733788220\ntotal\t507703335401\t1000000000000000\t50770333540100\t55847366894110\t111694733788220\nday\t23\t1\t507703335401\ndaily\t1\t1\t1000000000000000\t50770333540100\t55847366894110\t111694733788220\ndaily\t2\t0\t0\t0\t0\t0\ntotal\t1\t1000000000000000\t50770333540100\t55847366894110\t111694733788220\nday\t28\t2\t507703335401\ndaily\t1\t1\t500000000000000\t25385166770050\t27923683447055\t55847366894110\ndaily\t2\t1\t500000000000000\t25385166770050\t27923683447055\t55847366894110\ntotal\t2\t1000000000000000\t50770333540100\t55847366894110\t111694733788220\nday\t29\t654568271192\t507703335401\ndaily\t1\t191587142012\t292692375179003\t14860089512482\t16346098463730\t32692196927461\ndaily\t2\t462981129180\t707307624820998\t35910244027618\t39501268430380\t79002536860759\ntotal\t654568271192\t1000000000000001\t50770333540100\t55847366894110\t111694733788220\nfund\t4\t507703335401\t558473668942\ncontribution\t1\t250292872013\t250292872013\t500585744026\ncontribution\t2\t308180796929\t308180796929\t616361593858\n")
    -- a day of own Max EUL 0 after one near three times the limit; 9 after them
    ∷ ("period\t1\t3\nmember\t1\t0\t1\t31\nday\t3\t1\nacct\t1\t0\tH\t9\t0\t0\t11\t9\t8\nday\t20\t7\nacct\t1\t0\tH\t1000000000000\t0\t0\t0\t1000000000000\t1000000000000\nacct\t1\t1\tR\t0\t1000000000000\t0\t-1\t-1000000000000\t-1000000000000\nacct\t1\t2\tR\t-999999999999\t0\t0\t0\t-999999999999\t-999999999999\nacct\t1\t3\tR\t-999999999999\t0\t0\t0\t-999999999999\t-999999999999\nacct\t1\t5\tA\t1\t0\t0\t1\t1\t0\nacct\t1\t6\tU\t999999999999\t0\t0\t0\t1000000000000\t0\nacct\t1\t7\tR\t999999999999\t0\t0\t-1\t-1\t0\nday\t21\t14\nacct\t1\t0\tH\t6056331957\t23186815803\t0\t6091679386\t5613041106\t8243780570\nacct\t1\t1\tR\t5060931618\t870411613\t0\t5028413179\t13078939234\t4190520008\nacct\t1\t2\tR\t-85727861\t9020000958\t0\t-9105728819\t814020419\t582239818\nacct\t1\t4\tR\t77894368\t7458434125\t0\t-7380539758\t-681504230\t371091773\nacct\t1\t5\tR\t77894368\t7458434125\t0\t-7380539758\t-681504230\t371091773\nacct\t1\t6\tR\t-988423362\t9919698896\t9919698896\t4117571233\t-1080156461\t-10908122256\nacct\t1\t7\tR\t-139473300\t66283541\t36339365\t-205756841\t10079858\t102528229\nacct\t1\t8\tA\t-139473300\t66283541\t36339365\t-205756841\t10079858\t102528229\nacct\t1\t9\tR\t-139473300\t66283541\t36339365\t-205756841\t10079858\t102528229\nacct\t1\t10\tR\t-905967021\t75988750\t0\t-965670712\t6393415691\t-981955771\nacct\t1\t11\tR\t-804671284\t880246743\t0\t-1684918028\t-765843155\t-818904137\nacct\t1\t12\tR\t-804671284\t880246743\t0\t-1684918028\t-765843155\t-818904137\nacct\t1\t13\tA\t76048986\t9096262817\t9096262817\t-344501858\t-9020213832\t2510065161\nacct\t1\t14\tR\t-247380525\t8562302716\t3691223877\t-8809683240\t-325622458\t-313671116\nendxxxxxxxxxxxxxxxxxxxxxxxxxxxxxxxxxxxxxxxxxxxxxxxxxxxxxxxxxxxxxxxxxxxxxxxxxxxxxxxxxxxxxxxxxxxxxxxxxxxxxxxxxxxxxxxxxxxxxxxxxxxxxxxxxxxxxxxxxxxxxxxxxxxxxxxxxxxxxxxxxxxxxxxxxxxxxxxxxxxxxxxxxxxxxxxxxxxxxxxxxxxxxxxxxxxxxxxxxxxxxxxxxxxxxxxxxxxxxxxxxxxxxxxxxxxxxxxxxxxxxxxxxxxxxxxxxxxxxxxxxxxxxxxxxxxxxxxxxxxxxxxxxxxxxxxxxxxxxxxxxxxxxxxxxxxxxxxxxxxxxxxxxxxxxxxxxxxxxxxxxxxxxxxxxxxxxxxxxxxxxxxxxxxxxxxxxxxxxxxxxxxxxxxxxxxxxxxxxxxxxxxxxxxxxxxxxxxxxxxxxxxxxxxxxxxxxxxxxxxxxxxxxxxxxxxxxxxxxxxxxxxxxxxxxxxxxxxxxxxxxxxxxxxxxxxxxxxxxxxxxxxxxxxxxxxxxxxxxxxxxxxxxxxxxxxxxxxxxxxxxxxxxxxxxxxxxxxxxxxxxxxxxxxxxxxxxxxxxxxx\n" gives "day\t3\t1\t1\ndaily\t1\t1\t1000000000000000\t100\t110\t220\ntotal\t1\t1000000000000000\t100\t110\t220\nday\t20\t3000000000000\t2999999999999\ndaily\t1\t3000000000000\t1000000000000000\t299999999999900\t329999999999890\t659999999999780\ntotal\t3000000000000\t1000000000000000\t299999999999900\t329999999999890\t659999999999780\nday\t21\t1\t2999999999999\ndaily\t1\t1\t1000000000000000\t299999999999900\t329999999999890\t659999999999780\ntotal\t1\t1000000000000000\t299999999999900\t329999999999890\t659999999999780\nrefused\t9\t28\n")
    -- days without losses before, between and after two that count
    ∷ ("period\t2\t1\nmember\t1\t0\t1\t31\nmember\t2\t0\t1\t31\nday\t2\t2\nacct\t1\t0\tH\t0\t0\t0\t0\nacct\t2\t0\tH\t0\t0\t0\t0\nday\t3\t2\nacct\t1\t0\tH\t0\t0\t0\t-400000000\nacct\t2\t0\tH\t0\t0\t0\t-200000000\nday\t4\t2\nacct\t1\t0\tH\t0\t0\t0\t0\nacct\t2\t0\tH\t0\t0\t0\t0\nday\t5\t2\nacct\t1\t0\tH\t0\t0\t0\t0\nacct\t2\t0\tH\t0\t0\t0\t0\nday\t6\t2\nacct\t1\t0\tH\t0\t0\t0\t-100000000\nacct\t2\t0\tH\t0\t0\t0\t-300000000\nday\t31\t2\nacct\t1\t0\tH\t0\t0\t0\t0\nacct\t2\t0\tH\t0\t0\t0\t0\nend\n" gives "day\t2\t0\t0\ndaily\t1\t0\t0\t0\t0\t0\ndaily\t2\t0\t0\t0\t0\t0\ntotal\t0\t0\t0\t0\t0\nday\t3\t600000000\t400000000\ndaily\t1\t400000000\t666666666666667\t26666666667\t29333333333\t58666666667\ndaily\t2\t200000000\t333333333333334\t13333333333\t14666666667\t29333333333\ntotal\t600000000\t1000000000000001\t40000000000\t44000000000\t88000000000\nday\t4\t0\t400000000\ndaily\t1\t0\t0\t0\t0\t0\ndaily\t2\t0\t0\t0\t0\t0\ntotal\t0\t0\t0\t0\t0\nday\t5\t0\t400000000\ndaily\t1\t0\t0\t0\t0\t0\ndaily\t2\t0\t0\t0\t0\t0\ntotal\t0\t0\t0\t0\t0\nday\t6\t400000000\t400000000\ndaily\t1\t100000000\t250000000000000\t10000000000\t11000000000\t22000000000\ndaily\t2\t300000000\t750000000000000\t30000000000\t33000000000\t66000000000\ntotal\t400000000\t1000000000000000\t40000000000\t44000000000\t88000000000\nday\t31\t0\t400000000\ndaily\t1\t0\t0\t0\t0\t0\ndaily\t2\t0\t0\t0\t0\t0\ntotal\t0\t0\t0\t0\t0\nfund\t2\t400000000\t440000001\ncontribution\t1\t201666667\t201666667\t403333334\ncontribution\t2\t238333334\t238333334\t476666668\n")
    -- only days without losses
    ∷ ("period\t2\t1\nmember\t1\t0\t1\t31\nmember\t2\t0\t1\t31\nday\t1\t2\nacct\t1\t0\tH\t0\t0\t0\t0\nacct\t2\t0\tH\t0\t0\t0\t0\nday\t2\t2\nacct\t1\t0\tH\t0\t0\t0\t0\nacct\t2\t0\tH\t0\t0\t0\t0\nday\t31\t2\nacct\t1\t0\tH\t0\t0\t0\t0\nacct\t2\t0\tH\t0\t0\t0\t0\nend\n" gives "day\t1\t0\t0\ndaily\t1\t0\t0\t0\t0\t0\ndaily\t2\t0\t0\t0\t0\t0\ntotal\t0\t0\t0\t0\t0\nday\t2\t0\t0\ndaily\t1\t0\t0\t0\t0\t0\ndaily\t2\t0\t0\t0\t0\t0\ntotal\t0\t0\t0\t0\t0\nday\t31\t0\t0\ndaily\t1\t0\t0\t0\t0\t0\ndaily\t2\t0\t0\t0\t0\t0\ntotal\t0\t0\t0\t0\t0\nfund\t0\t0\t100000000\ncontribution\t1\t0\t50000000\t100000000\ncontribution\t2\t0\t50000000\t100000000\n")
    -- two days without losses of one number: 3
    ∷ ("period\t1\t1\nmember\t1\t0\t1\t31\nday\t5\t1\nacct\t1\t0\tH\t0\t0\t0\t0\nday\t5\t1\nacct\t1\t0\tH\t0\t0\t0\t0\nend\n" gives "day\t5\t0\t0\ndaily\t1\t0\t0\t0\t0\t0\ntotal\t0\t0\t0\t0\t0\nrefused\t3\t5\n")
    -- the number of a day without losses again, and a bad account: 3
    ∷ ("period\t1\t1\nmember\t1\t0\t1\t31\nday\t1\t1\nacct\t1\t0\tH\t10\t0\t0\t0\nday\t5\t1\nacct\t1\t0\tH\t0\t0\t0\t0\nday\t5\t1\nacct\t2\t0\tH\t10\t0\t0\t0\nend\n" gives "day\t1\t10\t10\ndaily\t1\t10\t1000000000000000\t1000\t1100\t2200\ntotal\t10\t1000000000000000\t1000\t1100\t2200\nday\t5\t0\t10\ndaily\t1\t0\t0\t0\t0\t0\ntotal\t0\t0\t0\t0\t0\nrefused\t3\t7\n")
    -- 3 for a number below that of a day without losses, and above that of the day that counts
    ∷ ("period\t1\t1\nmember\t1\t0\t1\t31\nday\t1\t1\nacct\t1\t0\tH\t10\t0\t0\t0\nday\t5\t1\nacct\t1\t0\tH\t0\t0\t0\t0\nday\t3\t1\nacct\t1\t0\tH\t10\t0\t0\t0\nend\n" gives "day\t1\t10\t10\ndaily\t1\t10\t1000000000000000\t1000\t1100\t2200\ntotal\t10\t1000000000000000\t1000\t1100\t2200\nday\t5\t0\t10\ndaily\t1\t0\t0\t0\t0\t0\ntotal\t0\t0\t0\t0\t0\nrefused\t3\t7\n")
    -- margins that just cover; then by a dollar one does not
    ∷ ("period\t2\t2\nmember\t1\t0\t1\t31\nmember\t2\t7\t1\t31\nday\t1\t2\nacct\t1\t0\tH\t0\t9\t0\t-9\t-4\nacct\t2\t0\tH\t0\t1000000000000\t0\t0\t-1000000000000\nday\t2\t2\nacct\t1\t0\tH\t0\t9\t0\t-9\t-4\nacct\t2\t0\tH\t0\t999999999999\t0\t0\t-1000000000000\nday\t3\t2\nacct\t1\t0\tH\t0\t9\t0\t-9\t-4\nacct\t2\t0\tH\t0\t8\t0\t0\t-8\nend\n" gives "day\t1\t0\t0\ndaily\t1\t0\t0\t0\t0\t0\ndaily\t2\t0\t0\t0\t0\t0\ntotal\t0\t0\t0\t0\t0\nday\t2\t1\t1\ndaily\t1\t0\t0\t0\t0\t0\ndaily\t2\t1\t1000000000000000\t100\t110\t220\ntotal\t1\t1000000000000000\t100\t110\t220\nday\t3\t0\t1\ndaily\t1\t0\t0\t0\t0\t0\ndaily\t2\t0\t0\t0\t0\t0\ntotal\t0\t0\t0\t0\t0\nfund\t1\t1\t100000000\ncontribution\t1\t0\t50000000\t100000000\ncontribution\t2\t2\t50000000\t100000000\n")
    -- an extra that is not counted: without it there would be no loss
    ∷ ("period\t1\t1\nmember\t1\t0\t1\t31\nday\t1\t1\nacct\t1\t0\tH\t0\t9\t0\t-9\nday\t2\t1\nacct\t1\t0\tH\t0\t9\t1\t-9\nend\n" gives "day\t1\t0\t0\ndaily\t1\t0\t0\t0\t0\t0\ntotal\t0\t0\t0\t0\t0\nday\t2\t1\t1\ndaily\t1\t1\t1000000000000000\t100\t110\t220\ntotal\t1\t1000000000000000\t100\t110\t220\nfund\t1\t1\t50000000\ncontribution\t1\t2\t50000000\t100000000\n")
    -- a day without losses on which clients lose what the house account covers, to the dollar
    ∷ ("period\t1\t1\nmember\t1\t0\t1\t31\nday\t1\t1\nacct\t1\t0\tH\t10\t0\t0\t0\nday\t2\t4\nacct\t1\t0\tH\t0\t7\t0\t-2\nacct\t1\t1\tR\t0\t0\t0\t-3\nacct\t1\t2\tR\t0\t0\t0\t-1\nacct\t1\t3\tU\t0\t0\t0\t-1\nday\t3\t4\nacct\t1\t0\tH\t0\t6\t0\t-2\nacct\t1\t1\tR\t0\t0\t0\t-3\nacct\t1\t2\tR\t0\t0\t0\t-1\nacct\t1\t3\tU\t0\t0\t0\t-1\nend\n" gives "day\t1\t10\t10\ndaily\t1\t10\t1000000000000000\t1000\t1100\t2200\ntotal\t10\t1000000000000000\t1000\t1100\t2200\nday\t2\t0\t10\ndaily\t1\t0\t0\t0\t0\t0\ntotal\t0\t0\t0\t0\t0\nday\t3\t1\t10\ndaily\t1\t1\t1000000000000000\t1000\t1100\t2200\ntotal\t1\t1000000000000000\t1000\t1100\t2200\nfund\t2\t10\t50000000\ncontribution\t1\t11\t50000000\t100000000\n")
    -- a day without losses between one of T above 0 and Max EUL 0 and one with both above 0
    ∷ ("period\t1\t2\nmember\t1\t0\t1\t31\nday\t1\t2\nacct\t1\t0\tH\t0\t7\t0\t-7\t0\nacct\t1\t1\tR\t0\t0\t0\t0\t-7\nday\t2\t2\nacct\t1\t0\tH\t0\t0\t0\t0\t0\nacct\t1\t1\tR\t0\t0\t0\t0\t0\nday\t3\t3\nacct\t1\t0\tH\t0\t5\t0\t-5\t0\nacct\t1\t1\tR\t0\t0\t0\t0\t-5\nacct\t1\t2\tU\t0\t0\t0\t-1\t0\nend\n" gives "day\t1\t7\t0\ndaily\t1\t7\t1000000000000000\t0\t0\t0\ntotal\t7\t1000000000000000\t0\t0\t0\nday\t2\t0\t0\ndaily\t1\t0\t0\t0\t0\t0\ntotal\t0\t0\t0\t0\t0\nday\t3\t6\t2\ndaily\t1\t6\t1000000000000000\t200\t220\t440\ntotal\t6\t1000000000000000\t200\t220\t440\nfund\t2\t2\t50000000\ncontribution\t1\t3\t50000000\t100000000\n")
    -- 6 on a day without losses
    ∷ ("period\t1\t1\nmember\t1\t0\t1\t31\nday\t1\t1\nacct\t1\t0\tH\t10\t0\t0\t0\nday\t2\t1\nacct\t1\t0\tH\t0\t1000000000001\t0\t0\nend\n" gives "day\t1\t10\t10\ndaily\t1\t10\t1000000000000000\t1000\t1100\t2200\ntotal\t10\t1000000000000000\t1000\t1100\t2200\nrefused\t6\t6\n")
    -- 5 on a day without losses
    ∷ ("period\t1\t1\nmember\t1\t0\t1\t31\nday\t1\t1\nacct\t1\t0\tH\t0\t0\t0\t0\nday\t2\t2\nacct\t1\t0\tH\t0\t0\t0\t0\nacct\t1\t0\tR\t0\t0\t0\t0\nend\n" gives "day\t1\t0\t0\ndaily\t1\t0\t0\t0\t0\t0\ntotal\t0\t0\t0\t0\t0\nrefused\t5\t7\n")
    -- 9 after a day without losses
    ∷ ("period\t1\t1\nmember\t1\t0\t1\t31\nday\t1\t1\nacct\t1\t0\tH\t0\t0\t0\t0\nend\nend\n" gives "day\t1\t0\t0\ndaily\t1\t0\t0\t0\t0\t0\ntotal\t0\t0\t0\t0\t0\nrefused\t9\t6\n")
    -- one member: two days without losses, clients covered to the dollar on the second, and one of 7
    ∷ ("period\t1\t1\nmember\t1\t0\t1\t31\nday\t1\t2\nacct\t1\t0\tH\t0\t2\t0\t0\nacct\t1\t1\tA\t0\t0\t0\t0\nday\t2\t6\nacct\t1\t0\tH\t0\t6\t0\t-2\nacct\t1\t1\tR\t0\t0\t0\t-1\nacct\t1\t2\tR\t0\t0\t0\t0\nacct\t1\t3\tR\t0\t0\t0\t-3\nacct\t1\t4\tR\t0\t0\t0\t0\nacct\t1\t5\tR\t0\t0\t0\t0\nday\t3\t7\nacct\t1\t0\tH\t0\t5\t0\t-3\nacct\t1\t1\tR\t0\t0\t0\t-1\nacct\t1\t2\tR\t0\t0\t0\t-1\nacct\t1\t3\tR\t0\t0\t0\t-1\nacct\t1\t4\tR\t0\t0\t0\t-3\nacct\t1\t5\tA\t0\t0\t0\t-4\nacct\t1\t6\tU\t0\t0\t0\t0\nend\n" gives "day\t1\t0\t0\ndaily\t1\t0\t0\t0\t0\t0\ntotal\t0\t0\t0\t0\t0\nday\t2\t0\t0\ndaily\t1\t0\t0\t0\t0\t0\ntotal\t0\t0\t0\t0\t0\nday\t3\t7\t7\ndaily\t1\t7\t1000000000000000\t700\t770\t1540\ntotal\t7\t1000000000000000\t700\t770\t1540\nfund\t1\t7\t50000000\ncontribution\t1\t8\t50000000\t100000000\n")
    -- one member: three days without losses, clients covered to the dollar on the second
    ∷ ("period\t1\t1\nmember\t1\t0\t1\t31\nday\t1\t3\nacct\t1\t0\tH\t0\t4\t0\t-2\nacct\t1\t1\tR\t0\t0\t0\t0\nacct\t1\t2\tU\t0\t0\t0\t0\nday\t2\t6\nacct\t1\t0\tH\t0\t5\t0\t0\nacct\t1\t1\tR\t0\t0\t0\t-3\nacct\t1\t2\tR\t0\t0\t0\t-2\nacct\t1\t3\tR\t0\t0\t0\t-2\nacct\t1\t4\tR\t0\t0\t0\t-1\nacct\t1\t5\tR\t0\t0\t0\t-1\nday\t3\t1\nacct\t1\t0\tH\t0\t3\t0\t-2\nend\n" gives "day\t1\t0\t0\ndaily\t1\t0\t0\t0\t0\t0\ntotal\t0\t0\t0\t0\t0\nday\t2\t0\t0\ndaily\t1\t0\t0\t0\t0\t0\ntotal\t0\t0\t0\t0\t0\nday\t3\t0\t0\ndaily\t1\t0\t0\t0\t0\t0\ntotal\t0\t0\t0\t0\t0\nfund\t0\t0\t50000000\ncontribution\t1\t0\t50000000\t100000000\n")
    -- four members: the first and the last of three days, one member of four loses on the second
    ∷ ("period\t4\t1\nmember\t1\t0\t1\t31\nmember\t2\t0\t1\t31\nmember\t3\t0\t1\t31\nmember\t4\t0\t1\t31\nday\t1\t4\nacct\t1\t0\tH\t0\t1\t0\t0\nacct\t2\t0\tH\t0\t0\t0\t0\nacct\t3\t0\tH\t0\t1000000000000\t0\t0\nacct\t4\t0\tH\t0\t0\t0\t0\nday\t2\t4\nacct\t1\t0\tH\t0\t1000000000000\t0\t-2\nacct\t2\t0\tH\t0\t1000000000000\t0\t-2\nacct\t3\t0\tH\t0\t0\t0\t-2\nacct\t4\t0\tH\t0\t1000000000000\t0\t-2\nday\t3\t4\nacct\t1\t0\tH\t0\t0\t0\t0\nacct\t2\t0\tH\t0\t0\t0\t0\nacct\t3\t0\tH\t0\t0\t0\t0\nacct\t4\t0\tH\t0\t0\t0\t0\nend\n" gives "day\t1\t0\t0\ndaily\t1\t0\t0\t0\t0\t0\ndaily\t2\t0\t0\t0\t0\t0\ndaily\t3\t0\t0\t0\t0\t0\ndaily\t4\t0\t0\t0\t0\t0\ntotal\t0\t0\t0\t0\t0\nday\t2\t2\t2\ndaily\t1\t0\t0\t0\t0\t0\ndaily\t2\t0\t0\t0\t0\t0\ndaily\t3\t2\t1000000000000000\t200\t220\t440\ndaily\t4\t0\t0\t0\t0\t0\ntotal\t2\t1000000000000000\t200\t220\t440\nday\t3\t0\t2\ndaily\t1\t0\t0\t0\t0\t0\ndaily\t2\t0\t0\t0\t0\t0\ndaily\t3\t0\t0\t0\t0\t0\ndaily\t4\t0\t0\t0\t0\t0\ntotal\t0\t0\t0\t0\t0\nfund\t1\t2\t200000000\ncontribution\t1\t0\t50000000\t100000000\ncontribution\t2\t0\t50000000\t100000000\ncontribution\t3\t3\t50000000\t100000000\ncontribution\t4\t0\t50000000\t100000000\n")
    -- three members: a day of one dollar, then two without losses, two margins that just cover on the first of them
    ∷ ("period\t3\t1\nmember\t1\t0\t1\t31\nmember\t2\t0\t1\t31\nmember\t3\t0\t1\t31\nday\t1\t3\nacct\t1\t0\tH\t0\t1\t0\t-1\nacct\t2\t0\tH\t0\t1000000000000\t0\t-1\nacct\t3\t0\tH\t0\t0\t0\t-1\nday\t2\t3\nacct\t1\t0\tH\t0\t1\t0\t-1\nacct\t2\t0\tH\t0\t1\t0\t-1\nacct\t3\t0\tH\t0\t1000000000000\t0\t-1\nday\t3\t3\nacct\t1\t0\tH\t0\t0\t0\t0\nacct\t2\t0\tH\t0\t0\t0\t0\nacct\t3\t0\tH\t0\t0\t0\t0\nend\n" gives "day\t1\t1\t1\ndaily\t1\t0\t0\t0\t0\t0\ndaily\t2\t0\t0\t0\t0\t0\ndaily\t3\t1\t1000000000000000\t100\t110\t220\ntotal\t1\t1000000000000000\t100\t110\t220\nday\t2\t0\t1\ndaily\t1\t0\t0\t0\t0\t0\ndaily\t2\t0\t0\t0\t0\t0\ndaily\t3\t0\t0\t0\t0\t0\ntotal\t0\t0\t0\t0\t0\nday\t3\t0\t1\ndaily\t1\t0\t0\t0\t0\t0\ndaily\t2\t0\t0\t0\t0\t0\ndaily\t3\t0\t0\t0\t0\t0\ntotal\t0\t0\t0\t0\t0\nfund\t1\t1\t150000000\ncontribution\t1\t0\t50000000\t100000000\ncontribution\t2\t0\t50000000\t100000000\ncontribution\t3\t2\t50000000\t100000000\n")
    -- two groups of one member each: a day without losses, then one of one dollar
    ∷ ("period\t2\t1\nmember\t1\t4\t1\t31\nmember\t2\t24\t1\t31\nday\t11\t2\nacct\t1\t0\tH\t5744\t0\t0\t262067\nacct\t2\t0\tH\t136\t0\t0\t124658\nday\t19\t2\nacct\t1\t0\tH\t-69\t2872\t0\t-129\nacct\t2\t0\tH\t-9\t391\t0\t-401\nend\n" gives "day\t11\t0\t0\ndaily\t1\t0\t0\t0\t0\t0\ndaily\t2\t0\t0\t0\t0\t0\ntotal\t0\t0\t0\t0\t0\nday\t19\t1\t1\ndaily\t1\t0\t0\t0\t0\t0\ndaily\t2\t1\t1000000000000000\t100\t110\t220\ntotal\t1\t1000000000000000\t100\t110\t220\nfund\t1\t1\t100000000\ncontribution\t1\t0\t50000000\t100000000\ncontribution\t2\t2\t50000000\t100000000\n")
    -- 3 for a number below that of a day without losses
    ∷ ("period\t2\t1\nmember\t1\t0\t1\t31\nmember\t2\t0\t1\t31\nday\t3\t2\nacct\t1\t0\tH\t0\t0\t0\t0\nacct\t2\t0\tH\t0\t0\t0\t0\nday\t2\t2\nacct\t1\t0\tH\t390000000\t0\t0\t0\nacct\t2\t0\tH\t10000000\t0\t0\t0\nend\n" gives "day\t3\t0\t0\ndaily\t1\t0\t0\t0\t0\t0\ndaily\t2\t0\t0\t0\t0\t0\ntotal\t0\t0\t0\t0\t0\nrefused\t3\t7\n")
    -- the two largest of kind R in every order, with a tie of their own EULs
    ∷ ("period\t1\t2\nmember\t1\t0\t1\t31\nday\t1\t4\nacct\t1\t0\tH\t0\t0\t0\t-2\t-2\nacct\t1\t1\tR\t0\t0\t0\t-3\t-5\nacct\t1\t2\tR\t0\t2\t1\t-6\t-2\nacct\t1\t3\tU\t0\t4\t4\t-1\t-1\nday\t2\t4\nacct\t1\t0\tH\t0\t0\t0\t-2\t-2\nacct\t1\t1\tR\t0\t0\t0\t-3\t-5\nacct\t1\t2\tU\t0\t4\t4\t-1\t-1\nacct\t1\t3\tR\t0\t2\t1\t-6\t-2\nday\t3\t4\nacct\t1\t0\tH\t0\t0\t0\t-2\t-2\nacct\t1\t1\tR\t0\t2\t1\t-6\t-2\nacct\t1\t2\tR\t0\t0\t0\t-3\t-5\nacct\t1\t3\tU\t0\t4\t4\t-1\t-1\nday\t4\t4\nacct\t1\t0\tH\t0\t0\t0\t-2\t-2\nacct\t1\t1\tR\t0\t2\t1\t-6\t-2\nacct\t1\t2\tU\t0\t4\t4\t-1\t-1\nacct\t1\t3\tR\t0\t0\t0\t-3\t-5\nday\t5\t4\nacct\t1\t0\tH\t0\t0\t0\t-2\t-2\nacct\t1\t1\tU\t0\t4\t4\t-1\t-1\nacct\t1\t2\tR\t0\t0\t0\t-3\t-5\nacct\t1\t3\tR\t0\t2\t1\t-6\t-2\nday\t6\t4\nacct\t1\t0\tH\t0\t0\t0\t-2\t-2\nacct\t1\t1\tU\t0\t4\t4\t-1\t-1\nacct\t1\t2\tR\t0\t2\t1\t-6\t-2\nacct\t1\t3\tR\t0\t0\t0\t-3\t-5\nend\n" gives "day\t1\t13\t11\ndaily\t1\t13\t1000000000000000\t1100\t1210\t2420\ntotal\t13\t1000000000000000\t1100\t1210\t2420\nday\t2\t13\t11\ndaily\t1\t13\t1000000000000000\t1100\t1210\t2420\ntotal\t13\t1000000000000000\t1100\t1210\t2420\nday\t3\t13\t11\ndaily\t1\t13\t1000000000000000\t1100\t1210\t2420\ntotal\t13\t1000000000000000\t1100\t1210\t2420\nday\t4\t13\t11\ndaily\t1\t13\t1000000000000000\t1100\t1210\t2420\ntotal\t13\t1000000000000000\t1100\t1210\t2420\nday\t5\t13\t11\ndaily\t1\t13\t1000000000000000\t1100\t1210\t2420\ntotal\t13\t1000000000000000\t1100\t1210\t2420\nday\t6\t13\t11\ndaily\t1\t13\t1000000000000000\t1100\t1210\t2420\ntotal\t13\t1000000000000000\t1100\t1210\t2420\nfund\t6\t11\t50000000\ncontribution\t1\t13\t50000000\t100000000\n")
    -- two equal accounts of kind R, the largest, in every order
    ∷ ("period\t1\t1\nmember\t1\t0\t1\t31\nday\t1\t5\nacct\t1\t0\tH\t0\t0\t0\t-2\nacct\t1\t1\tA\t0\t0\t0\t-1\nacct\t1\t2\tR\t0\t0\t0\t-2\nacct\t1\t3\tR\t0\t1\t0\t-4\nacct\t1\t4\tR\t0\t1\t0\t-4\nday\t2\t5\nacct\t1\t0\tH\t0\t0\t0\t-2\nacct\t1\t1\tA\t0\t0\t0\t-1\nacct\t1\t2\tR\t0\t1\t0\t-4\nacct\t1\t3\tR\t0\t0\t0\t-2\nacct\t1\t4\tR\t0\t1\t0\t-4\nday\t3\t5\nacct\t1\t0\tH\t0\t0\t0\t-2\nacct\t1\t1\tA\t0\t0\t0\t-1\nacct\t1\t2\tR\t0\t1\t0\t-4\nacct\t1\t3\tR\t0\t1\t0\t-4\nacct\t1\t4\tR\t0\t0\t0\t-2\nday\t4\t5\nacct\t1\t0\tH\t0\t0\t0\t-2\nacct\t1\t1\tR\t0\t0\t0\t-2\nacct\t1\t2\tA\t0\t0\t0\t-1\nacct\t1\t3\tR\t0\t1\t0\t-4\nacct\t1\t4\tR\t0\t1\t0\t-4\nday\t5\t5\nacct\t1\t0\tH\t0\t0\t0\t-2\nacct\t1\t1\tR\t0\t0\t0\t-2\nacct\t1\t2\tR\t0\t1\t0\t-4\nacct\t1\t3\tA\t0\t0\t0\t-1\nacct\t1\t4\tR\t0\t1\t0\t-4\nday\t6\t5\nacct\t1\t0\tH\t0\t0\t0\t-2\nacct\t1\t1\tR\t0\t0\t0\t-2\nacct\t1\t2\tR\t0\t1\t0\t-4\nacct\t1\t3\tR\t0\t1\t0\t-4\nacct\t1\t4\tA\t0\t0\t0\t-1\nday\t7\t5\nacct\t1\t0\tH\t0\t0\t0\t-2\nacct\t1\t1\tR\t0\t1\t0\t-4\nacct\t1\t2\tA\t0\t0\t0\t-1\nacct\t1\t3\tR\t0\t0\t0\t-2\nacct\t1\t4\tR\t0\t1\t0\t-4\nday\t8\t5\nacct\t1\t0\tH\t0\t0\t0\t-2\nacct\t1\t1\tR\t0\t1\t0\t-4\nacct\t1\t2\tA\t0\t0\t0\t-1\nacct\t1\t3\tR\t0\t1\t0\t-4\nacct\t1\t4\tR\t0\t0\t0\t-2\nday\t9\t5\nacct\t1\t0\tH\t0\t0\t0\t-2\nacct\t1\t1\tR\t0\t1\t0\t-4\nacct\t1\t2\tR\t0\t0\t0\t-2\nacct\t1\t3\tA\t0\t0\t0\t-1\nacct\t1\t4\tR\t0\t1\t0\t-4\nday\t10\t5\nacct\t1\t0\tH\t0\t0\t0\t-2\nacct\t1\t1\tR\t0\t1\t0\t-4\nacct\t1\t2\tR\t0\t0\t0\t-2\nacct\t1\t3\tR\t0\t1\t0\t-4\nacct\t1\t4\tA\t0\t0\t0\t-1\nday\t11\t5\nacct\t1\t0\tH\t0\t0\t0\t-2\nacct\t1\t1\tR\t0\t1\t0\t-4\nacct\t1\t2\tR\t0\t1\t0\t-4\nacct\t1\t3\tA\t0\t0\t0\t-1\nacct\t1\t4\tR\t0\t0\t0\t-2\nday\t12\t5\nacct\t1\t0\tH\t0\t0\t0\t-2\nacct\t1\t1\tR\t0\t1\t0\t-4\nacct\t1\t2\tR\t0\t1\t0\t-4\nacct\t1\t3\tR\t0\t0\t0\t-2\nacct\t1\t4\tA\t0\t0\t0\t-1\nend\n" gives "day\t1\t9\t9\ndaily\t1\t9\t1000000000000000\t900\t990\t1980\ntotal\t9\t1000000000000000\t900\t990\t1980\nday\t2\t9\t9\ndaily\t1\t9\t1000000000000000\t900\t990\t1980\ntotal\t9\t1000000000000000\t900\t990\t1980\nday\t3\t9\t9\ndaily\t1\t9\t1000000000000000\t900\t990\t1980\ntotal\t9\t1000000000000000\t900\t990\t1980\nday\t4\t9\t9\ndaily\t1\t9\t1000000000000000\t900\t990\t1980\ntotal\t9\t1000000000000000\t900\t990\t1980\nday\t5\t9\t9\ndaily\t1\t9\t1000000000000000\t900\t990\t1980\ntotal\t9\t1000000000000000\t900\t990\t1980\nday\t6\t9\t9\ndaily\t1\t9\t1000000000000000\t900\t990\t1980\ntotal\t9\t1000000000000000\t900\t990\t1980\nday\t7\t9\t9\ndaily\t1\t9\t1000000000000000\t900\t990\t1980\ntotal\t9\t1000000000000000\t900\t990\t1980\nday\t8\t9\t9\ndaily\t1\t9\t1000000000000000\t900\t990\t1980\ntotal\t9\t1000000000000000\t900\t990\t1980\nday\t9\t9\t9\ndaily\t1\t9\t1000000000000000\t900\t990\t1980\ntotal\t9\t1000000000000000\t900\t990\t1980\nday\t10\t9\t9\ndaily\t1\t9\t1000000000000000\t900\t990\t1980\ntotal\t9\t1000000000000000\t900\t990\t1980\nday\t11\t9\t9\ndaily\t1\t9\t1000000000000000\t900\t990\t1980\ntotal\t9\t1000000000000000\t900\t990\t1980\nday\t12\t9\t9\ndaily\t1\t9\t1000000000000000\t900\t990\t1980\ntotal\t9\t1000000000000000\t900\t990\t1980\nfund\t12\t9\t50000000\ncontribution\t1\t10\t50000000\t100000000\n")
    -- half the clients' sum, with a half dollar, in every order
    ∷ ("period\t1\t1\nmember\t1\t0\t1\t31\nday\t1\t4\nacct\t1\t0\tH\t0\t0\t0\t-2\nacct\t1\t1\tA\t0\t0\t0\t-3\nacct\t1\t2\tR\t0\t0\t0\t-1\nacct\t1\t3\tU\t0\t1\t1\t-1\nday\t2\t4\nacct\t1\t0\tH\t0\t0\t0\t-2\nacct\t1\t1\tA\t0\t0\t0\t-3\nacct\t1\t2\tU\t0\t1\t1\t-1\nacct\t1\t3\tR\t0\t0\t0\t-1\nday\t3\t4\nacct\t1\t0\tH\t0\t0\t0\t-2\nacct\t1\t1\tR\t0\t0\t0\t-1\nacct\t1\t2\tA\t0\t0\t0\t-3\nacct\t1\t3\tU\t0\t1\t1\t-1\nday\t4\t4\nacct\t1\t0\tH\t0\t0\t0\t-2\nacct\t1\t1\tR\t0\t0\t0\t-1\nacct\t1\t2\tU\t0\t1\t1\t-1\nacct\t1\t3\tA\t0\t0\t0\t-3\nday\t5\t4\nacct\t1\t0\tH\t0\t0\t0\t-2\nacct\t1\t1\tU\t0\t1\t1\t-1\nacct\t1\t2\tA\t0\t0\t0\t-3\nacct\t1\t3\tR\t0\t0\t0\t-1\nday\t6\t4\nacct\t1\t0\tH\t0\t0\t0\t-2\nacct\t1\t1\tU\t0\t1\t1\t-1\nacct\t1\t2\tR\t0\t0\t0\t-1\nacct\t1\t3\tA\t0\t0\t0\t-3\nend\n" gives "day\t1\t9\t9\ndaily\t1\t9\t1000000000000000\t900\t990\t1980\ntotal\t9\t1000000000000000\t900\t990\t1980\nday\t2\t9\t9\ndaily\t1\t9\t1000000000000000\t900\t990\t1980\ntotal\t9\t1000000000000000\t900\t990\t1980\nday\t3\t9\t9\ndaily\t1\t9\t1000000000000000\t900\t990\t1980\ntotal\t9\t1000000000000000\t900\t990\t1980\nday\t4\t9\t9\ndaily\t1\t9\t1000000000000000\t900\t990\t1980\ntotal\t9\t1000000000000000\t900\t990\t1980\nday\t5\t9\t9\ndaily\t1\t9\t1000000000000000\t900\t990\t1980\ntotal\t9\t1000000000000000\t900\t990\t1980\nday\t6\t9\t9\ndaily\t1\t9\t1000000000000000\t900\t990\t1980\ntotal\t9\t1000000000000000\t900\t990\t1980\nfund\t6\t9\t50000000\ncontribution\t1\t10\t50000000\t100000000\n")
    -- one dollar beside twice the limit of an amount
    ∷ ("period\t2\t1\nmember\t1\t0\t1\t31\nmember\t2\t0\t1\t31\nday\t1\t2\nacct\t1\t0\tH\t1000000000000\t0\t0\t-1000000000000\nacct\t2\t0\tH\t1\t0\t0\t0\nend\n" gives "day\t1\t2000000000001\t2000000000000\ndaily\t1\t2000000000000\t999999999999501\t199999999999900\t219999999999890\t439999999999780\ndaily\t2\t1\t500\t100\t110\t220\ntotal\t2000000000001\t1000000000000001\t200000000000000\t220000000000000\t440000000000000\nfund\t1\t2000000000000\t2200049999999\ncontribution\t1\t2199999999999\t2199999999999\t4399999999998\ncontribution\t2\t2\t50000000\t100000000\n")
    -- one, two and three dollars beside twice the limit of an amount for each of two members
    ∷ ("period\t5\t1\nmember\t1\t0\t1\t31\nmember\t2\t0\t1\t31\nmember\t3\t0\t1\t31\nmember\t4\t0\t1\t31\nmember\t5\t0\t1\t31\nday\t1\t5\nacct\t1\t0\tH\t1000000000000\t0\t0\t-1000000000000\nacct\t2\t0\tH\t1000000000000\t0\t0\t-1000000000000\nacct\t3\t0\tH\t1\t0\t0\t0\nacct\t4\t0\tH\t2\t0\t0\t0\nacct\t5\t0\tH\t3\t0\t0\t0\nend\n" gives "day\t1\t4000000000006\t2000000000000\ndaily\t1\t2000000000000\t499999999999251\t99999999999850\t109999999999835\t219999999999670\ndaily\t2\t2000000000000\t499999999999251\t99999999999850\t109999999999835\t219999999999670\ndaily\t3\t1\t250\t50\t55\t110\ndaily\t4\t2\t500\t100\t110\t220\ndaily\t5\t3\t750\t150\t165\t330\ntotal\t4000000000006\t1000000000000002\t200000000000000\t220000000000000\t440000000000000\nfund\t1\t2000000000000\t2200149999998\ncontribution\t1\t1099999999999\t1099999999999\t2199999999998\ncontribution\t2\t1099999999999\t1099999999999\t2199999999998\ncontribution\t3\t1\t50000000\t100000000\ncontribution\t4\t2\t50000000\t100000000\ncontribution\t5\t2\t50000000\t100000000\n")
    -- two members: 7 dollars beside 69, 470 and 90 millions, on either side
    ∷ ("period\t2\t1\nmember\t1\t0\t1\t31\nmember\t2\t0\t1\t31\nday\t1\t2\nacct\t1\t0\tH\t0\t0\t0\t-69003430\nacct\t2\t0\tH\t0\t0\t0\t-7\nday\t13\t2\nacct\t1\t0\tH\t0\t0\t0\t-469905758\nacct\t2\t0\tH\t0\t0\t0\t-7\nday\t15\t2\nacct\t1\t0\tH\t0\t0\t0\t-89816741\nacct\t2\t0\tH\t0\t0\t0\t-7\nend\n" gives "day\t1\t69003437\t69003430\ndaily\t1\t69003430\t999999898555778\t6900342300\t7590376530\t15180753060\ndaily\t2\t7\t101444223\t700\t770\t1540\ntotal\t69003437\t1000000000000001\t6900343000\t7590377300\t15180754600\nday\t13\t469905765\t469905758\ndaily\t1\t469905758\t999999985103397\t46990575100\t51689632610\t103379265220\ndaily\t2\t7\t14896604\t700\t770\t1540\ntotal\t469905765\t1000000000000001\t46990575800\t51689633380\t103379266760\nday\t15\t89816748\t469905758\ndaily\t1\t89816741\t999999922063534\t46990572138\t51689629351\t103379258703\ndaily\t2\t7\t77936467\t3662\t4029\t8057\ntotal\t89816748\t1000000000000001\t46990575800\t51689633380\t103379266760\nfund\t3\t469905758\t566896301\ncontribution\t1\t516896301\t516896301\t1033792602\ncontribution\t2\t34\t50000000\t100000000\n")
    -- two members: one dollar beside 45,454,543, charged three dollars below the minimum
    ∷ ("period\t2\t1\nmember\t1\t0\t1\t31\nmember\t2\t0\t1\t31\nday\t1\t2\nacct\t1\t0\tH\t0\t0\t0\t-45454543\nacct\t2\t0\tH\t0\t0\t0\t-1\nend\n" gives "day\t1\t45454544\t45454543\ndaily\t1\t45454543\t999999978000000\t4545454200\t4999999620\t9999999240\ndaily\t2\t1\t22000001\t100\t110\t220\ntotal\t45454544\t1000000000000001\t4545454300\t4999999730\t9999999460\nfund\t1\t45454543\t100000000\ncontribution\t1\t49999997\t50000000\t100000000\ncontribution\t2\t2\t50000000\t100000000\n")
    -- four members: halves on one day and quarters on another, a day without losses between them
    ∷ ("period\t4\t1\nmember\t1\t0\t1\t31\nmember\t2\t0\t1\t31\nmember\t3\t0\t1\t31\nmember\t4\t0\t1\t31\nday\t1\t4\nacct\t1\t0\tH\t0\t0\t0\t-2\nacct\t2\t0\tH\t0\t1000000000000\t0\t-2\nacct\t3\t0\tH\t0\t0\t0\t-2\nacct\t4\t0\tH\t0\t1000000000000\t0\t-2\nday\t2\t4\nacct\t1\t0\tH\t0\t1\t0\t0\nacct\t2\t0\tH\t0\t1000000000000\t0\t0\nacct\t3\t0\tH\t0\t1\t0\t0\nacct\t4\t0\tH\t0\t1000000000000\t0\t0\nday\t3\t4\nacct\t1\t0\tH\t0\t0\t0\t-1000000000\nacct\t2\t0\tH\t0\t0\t0\t-1000000000\nacct\t3\t0\tH\t0\t0\t0\t-1000000000\nacct\t4\t0\tH\t0\t0\t0\t-1000000000\nend\n" gives "day\t1\t4\t2\ndaily\t1\t2\t500000000000000\t100\t110\t220\ndaily\t2\t0\t0\t0\t0\t0\ndaily\t3\t2\t500000000000000\t100\t110\t220\ndaily\t4\t0\t0\t0\t0\t0\ntotal\t4\t1000000000000000\t200\t220\t440\nday\t2\t0\t2\ndaily\t1\t0\t0\t0\t0\t0\ndaily\t2\t0\t0\t0\t0\t0\ndaily\t3\t0\t0\t0\t0\t0\ndaily\t4\t0\t0\t0\t0\t0\ntotal\t0\t0\t0\t0\t0\nday\t3\t4000000000\t1000000000\ndaily\t1\t1000000000\t250000000000000\t25000000000\t27500000000\t55000000000\ndaily\t2\t1000000000\t250000000000000\t25000000000\t27500000000\t55000000000\ndaily\t3\t1000000000\t250000000000000\t25000000000\t27500000000\t55000000000\ndaily\t4\t1000000000\t250000000000000\t25000000000\t27500000000\t55000000000\ntotal\t4000000000\t1000000000000000\t100000000000\t110000000000\t220000000000\nfund\t2\t1000000000\t1100000000\ncontribution\t1\t412500000\t412500000\t825000000\ncontribution\t2\t137500000\t137500000\t275000000\ncontribution\t3\t412500000\t412500000\t825000000\ncontribution\t4\t137500000\t137500000\t275000000\n")
    -- five members, four of one group: thirds, then sevenths
    ∷ ("period\t5\t2\nmember\t1\t0\t1\t31\nmember\t2\t1\t1\t31\nmember\t3\t1\t1\t31\nmember\t4\t1\t1\t31\nmember\t5\t1\t1\t31\nday\t1\t5\nacct\t1\t0\tH\t0\t0\t0\t-100\t-100\nacct\t2\t0\tH\t0\t30\t0\t0\t-100\nacct\t3\t0\tH\t0\t200\t0\t0\t-150\nacct\t4\t0\tH\t0\t30\t0\t0\t-80\nacct\t5\t0\tH\t0\t0\t0\t-80\t0\nday\t2\t5\nacct\t1\t0\tH\t0\t0\t0\t-100\t-100\nacct\t2\t0\tH\t0\t200\t0\t-100\t0\nacct\t3\t0\tH\t0\t0\t0\t0\t-80\nacct\t4\t0\tH\t0\t0\t0\t-100\t0\nacct\t5\t0\tH\t0\t200\t0\t-150\t-80\nend\n" gives "day\t1\t300\t100\ndaily\t1\t100\t333333333333334\t3333\t3667\t7333\ndaily\t2\t70\t233333333333334\t2333\t2567\t5133\ndaily\t3\t0\t0\t0\t0\t0\ndaily\t4\t50\t166666666666667\t1667\t1833\t3667\ndaily\t5\t80\t266666666666667\t2667\t2933\t5867\ntotal\t300\t1000000000000002\t10000\t11000\t22000\nday\t2\t280\t100\ndaily\t1\t100\t357142857142858\t3571\t3929\t7857\ndaily\t2\t0\t0\t0\t0\t0\ndaily\t3\t80\t285714285714286\t2857\t3143\t6286\ndaily\t4\t100\t357142857142858\t3571\t3929\t7857\ndaily\t5\t0\t0\t0\t0\t0\ntotal\t280\t1000000000000002\t9999\t11001\t22000\nfund\t2\t100\t250000000\ncontribution\t1\t38\t50000000\t100000000\ncontribution\t2\t13\t50000000\t100000000\ncontribution\t3\t16\t50000000\t100000000\ncontribution\t4\t29\t50000000\t100000000\ncontribution\t5\t15\t50000000\t100000000\n")
    -- two members of one group: a share of 334 parts, of one dollar in three millions of millions
    ∷ ("period\t2\t1\nmember\t1\t18\t1\t31\nmember\t2\t18\t1\t31\nday\t13\t4\nacct\t1\t0\tH\t30\t90\t0\t-61\nacct\t1\t10170\tA\t-65\t0\t0\t89772\nacct\t2\t0\tH\t-293\t969185\t0\t-387\nacct\t2\t1\tU\t0\t223713\t0\t-117721\nday\t25\t14\nacct\t1\t0\tH\t1000000000000\t0\t0\t1\nacct\t1\t6749\tA\t-999999999999\t1000000000000\t0\t-1000000000000\nacct\t1\t13198\tR\t-1\t0\t0\t-1000000000000\nacct\t1\t13473\tR\t999999999999\t0\t0\t1000000000000\nacct\t1\t21167\tR\t-1\t0\t0\t-1000000000000\nacct\t1\t23123\tR\t-1\t999999999999\t0\t-1000000000000\nacct\t1\t32240\tR\t1\t0\t0\t1\nacct\t1\t32306\tA\t1\t0\t0\t1\nacct\t1\t36545\tR\t1\t0\t0\t1\nacct\t1\t50672\tA\t1\t0\t0\t1\nacct\t1\t51973\tR\t-1\t0\t0\t-1000000000000\nacct\t1\t55635\tR\t1\t0\t0\t0\nacct\t1\t56341\tA\t-999999999999\t1\t1\t-1000000000000\nacct\t2\t0\tH\t999999999999\t4\t4\t999999999998\nday\t26\t2\nacct\t1\t0\tH\t-1\t8\t4\t-10\nacct\t2\t0\tH\t-9\t0\t0\t-14\nend\n" gives "day\t13\t1\t1\ndaily\t1\t1\t1000000000000000\t100\t110\t220\ndaily\t2\t0\t0\t0\t0\t0\ntotal\t1\t1000000000000000\t100\t110\t220\nday\t25\t2999999999999\t2999999999999\ndaily\t1\t2999999999998\t999999999999667\t299999999999800\t329999999999780\t659999999999560\ndaily\t2\t1\t334\t100\t110\t220\ntotal\t2999999999999\t1000000000000001\t299999999999900\t329999999999890\t659999999999780\nday\t26\t10\t2999999999999\ndaily\t1\t5\t500000000000000\t149999999999950\t164999999999945\t329999999999890\ndaily\t2\t5\t500000000000000\t149999999999950\t164999999999945\t329999999999890\ntotal\t10\t1000000000000000\t299999999999900\t329999999999890\t659999999999780\nfund\t3\t2999999999999\t3300000000000\ncontribution\t1\t2749999999999\t2749999999999\t5499999999998\ncontribution\t2\t550000000001\t550000000001\t1100000000002\n")
    -- four groups of one member each: a share of 2,000 parts, of 2 dollars in a million millions
    ∷ ("period\t4\t3\nmember\t1\t32\t1\t31\nmember\t2\t14\t1\t31\nmember\t3\t29\t1\t31\nmember\t4\t26\t1\t31\nday\t13\t4\nacct\t1\t0\tH\t0\t1000000000000\t1000000000000\t-1\t-1\t-1000000000000\nacct\t2\t0\tH\t0\t999999999999\t529499661069\t-1\t-1\t-999999999999\nacct\t3\t0\tH\t0\t1000000000000\t1000000000000\t-999999999999\t0\t-1000000000000\nacct\t4\t0\tH\t0\t0\t0\t1000000000000\t999999999999\t1\nday\t27\t5\nacct\t1\t0\tH\t-1\t2\t0\t-2\t999999999998\t-2\nacct\t2\t0\tH\t1000000000000\t1000000000000\t0\t1\t0\t1000000000000\nacct\t3\t0\tH\t-999999999999\t0\t0\t1\t-1000000000000\t-1000000000000\nacct\t3\t28879\tR\t1\t999999999999\t0\t-999999999999\t1\t0\nacct\t4\t0\tH\t0\t1000000000000\t1000000000000\t-1000000000000\t1\t0\nday\t29\t4\nacct\t1\t0\tH\t865565433995\t801673216969\t0\t63892217027\t347369729747\t192676687857\nacct\t2\t0\tH\t-244327754891\t106337857198\t0\t663410151843\t-350665612089\t123243889588\nacct\t3\t0\tH\t-84820010394\t770540504248\t770540504248\t-1000000000000\t80725819734\t-33940995767\nacct\t4\t0\tH\t-470327733466\t0\t0\t-1000000000000\t-879620126899\t-1000000000000\nend\n" gives "day\t13\t2529499661069\t1000000000000\ndaily\t1\t1000000000000\t395335099423333\t39533509942333\t43486860936567\t86973721873133\ndaily\t2\t529499661069\t209329801153335\t20932980115333\t23026278126867\t46052556253734\ndaily\t3\t1000000000000\t395335099423333\t39533509942333\t43486860936567\t86973721873133\ndaily\t4\t0\t0\t0\t0\t0\ntotal\t2529499661069\t1000000000000001\t99999999999999\t110000000000001\t220000000000000\nday\t27\t1000000000002\t1000000000000\ndaily\t1\t0\t0\t0\t0\t0\ndaily\t2\t0\t0\t0\t0\t0\ndaily\t3\t2\t2000\t200\t220\t440\ndaily\t4\t1000000000000\t999999999998001\t99999999999800\t109999999999780\t219999999999560\ntotal\t1000000000002\t1000000000000001\t100000000000000\t110000000000000\t220000000000000\nday\t29\t1444852256140\t1000000000000\ndaily\t1\t0\t0\t0\t0\t0\ndaily\t2\t0\t0\t0\t0\t0\ndaily\t3\t915179989606\t633407316019254\t63340731601925\t69674804762118\t139349609524236\ndaily\t4\t529672266534\t366592683980747\t36659268398075\t40325195237882\t80650390475764\ntotal\t1444852256140\t1000000000000001\t100000000000000\t110000000000000\t220000000000000\nfund\t3\t1000000000000\t1100000000001\ncontribution\t1\t144956203122\t144956203122\t289912406244\ncontribution\t2\t76754260423\t76754260423\t153508520846\ncontribution\t3\t377205552330\t377205552330\t754411104660\ncontribution\t4\t501083984126\t501083984126\t1002167968252\n")
    -- joins on the tenth: no account on the ninth, one on the tenth and on the eleventh
    ∷ ("period\t2\t1\nmember\t1\t0\t1\t31\nmember\t2\t0\t10\t31\nday\t9\t1\nacct\t1\t0\tH\t30\t0\t0\t0\nday\t10\t2\nacct\t1\t0\tH\t10\t0\t0\t0\nacct\t2\t0\tH\t20\t0\t0\t0\nday\t11\t2\nacct\t1\t0\tH\t10\t0\t0\t0\nacct\t2\t0\tH\t30\t0\t0\t0\nend\n" gives "day\t9\t30\t30\ndaily\t1\t30\t1000000000000000\t3000\t3300\t6600\ndaily\t2\t0\t0\t0\t0\t0\ntotal\t30\t1000000000000000\t3000\t3300\t6600\nday\t10\t30\t30\ndaily\t1\t10\t333333333333334\t1000\t1100\t2200\ndaily\t2\t20\t666666666666667\t2000\t2200\t4400\ntotal\t30\t1000000000000001\t3000\t3300\t6600\nday\t11\t40\t30\ndaily\t1\t10\t250000000000000\t750\t825\t1650\ndaily\t2\t30\t750000000000000\t2250\t2475\t4950\ntotal\t40\t1000000000000000\t3000\t3300\t6600\nfund\t3\t30\t100000000\ncontribution\t1\t18\t50000000\t100000000\ncontribution\t2\t16\t50000000\t100000000\n")
    -- joins on the tenth: an account on the ninth
    ∷ ("period\t2\t1\nmember\t1\t0\t1\t31\nmember\t2\t0\t10\t31\nday\t9\t2\nacct\t1\t0\tH\t30\t0\t0\t0\nacct\t2\t0\tH\t20\t0\t0\t0\nend\n" gives "refused\t5\t6\n")
    -- joins on the tenth: no account on the tenth
    ∷ ("period\t2\t1\nmember\t1\t0\t1\t31\nmember\t2\t0\t10\t31\nday\t10\t1\nacct\t1\t0\tH\t30\t0\t0\t0\nend\n" gives "refused\t5\t6\n")
    -- leaves on the tenth: an account on the ninth and on the tenth, none on the eleventh
    ∷ ("period\t2\t1\nmember\t1\t0\t1\t10\nmember\t2\t0\t1\t31\nday\t9\t2\nacct\t1\t0\tH\t30\t0\t0\t0\nacct\t2\t0\tH\t10\t0\t0\t0\nday\t10\t2\nacct\t1\t0\tH\t20\t0\t0\t0\nacct\t2\t0\tH\t10\t0\t0\t0\nday\t11\t1\nacct\t2\t0\tH\t30\t0\t0\t0\nend\n" gives "day\t9\t40\t30\ndaily\t1\t30\t750000000000000\t2250\t2475\t4950\ndaily\t2\t10\t250000000000000\t750\t825\t1650\ntotal\t40\t1000000000000000\t3000\t3300\t6600\nday\t10\t30\t30\ndaily\t1\t20\t666666666666667\t2000\t2200\t4400\ndaily\t2\t10\t333333333333334\t1000\t1100\t2200\ntotal\t30\t1000000000000001\t3000\t3300\t6600\nday\t11\t30\t30\ndaily\t1\t0\t0\t0\t0\t0\ndaily\t2\t30\t1000000000000000\t3000\t3300\t6600\ntotal\t30\t1000000000000000\t3000\t3300\t6600\nfund\t3\t30\t100000000\ncontribution\t1\t16\t50000000\t100000000\ncontribution\t2\t18\t50000000\t100000000\n")
    -- leaves on the tenth: no account on the tenth
    ∷ ("period\t2\t1\nmember\t1\t0\t1\t10\nmember\t2\t0\t1\t31\nday\t10\t1\nacct\t2\t0\tH\t30\t0\t0\t0\nend\n" gives "refused\t5\t5\n")
    -- leaves on the tenth: an account on the eleventh
    ∷ ("period\t2\t1\nmember\t1\t0\t1\t10\nmember\t2\t0\t1\t31\nday\t11\t2\nacct\t1\t0\tH\t20\t0\t0\t0\nacct\t2\t0\tH\t30\t0\t0\t0\nend\n" gives "refused\t5\t5\n")
    -- present on the tenth alone
    ∷ ("period\t2\t1\nmember\t1\t0\t1\t31\nmember\t2\t0\t10\t10\nday\t9\t1\nacct\t1\t0\tH\t30\t0\t0\t0\nday\t10\t2\nacct\t1\t0\tH\t10\t0\t0\t0\nacct\t2\t0\tH\t20\t0\t0\t0\nday\t11\t1\nacct\t1\t0\tH\t20\t0\t0\t0\nend\n" gives "day\t9\t30\t30\ndaily\t1\t30\t1000000000000000\t3000\t3300\t6600\ndaily\t2\t0\t0\t0\t0\t0\ntotal\t30\t1000000000000000\t3000\t3300\t6600\nday\t10\t30\t30\ndaily\t1\t10\t333333333333334\t1000\t1100\t2200\ndaily\t2\t20\t666666666666667\t2000\t2200\t4400\ntotal\t30\t1000000000000001\t3000\t3300\t6600\nday\t11\t20\t30\ndaily\t1\t20\t1000000000000000\t3000\t3300\t6600\ndaily\t2\t0\t0\t0\t0\t0\ntotal\t20\t1000000000000000\t3000\t3300\t6600\nfund\t3\t30\t100000000\ncontribution\t1\t26\t50000000\t100000000\ncontribution\t2\t8\t50000000\t100000000\n")
    -- one member leaves on day 1 and the other joins on day 31
    ∷ ("period\t2\t1\nmember\t1\t0\t1\t1\nmember\t2\t0\t31\t31\nday\t1\t1\nacct\t1\t0\tH\t40\t0\t0\t0\nday\t31\t1\nacct\t2\t0\tH\t20\t0\t0\t0\nend\n" gives "day\t1\t40\t40\ndaily\t1\t40\t1000000000000000\t4000\t4400\t8800\ndaily\t2\t0\t0\t0\t0\t0\ntotal\t40\t1000000000000000\t4000\t4400\t8800\nday\t31\t20\t40\ndaily\t1\t0\t0\t0\t0\t0\ndaily\t2\t20\t1000000000000000\t4000\t4400\t8800\ntotal\t20\t1000000000000000\t4000\t4400\t8800\nfund\t2\t40\t100000000\ncontribution\t1\t22\t50000000\t100000000\ncontribution\t2\t22\t50000000\t100000000\n")
    -- 5 for a day between them, on which nobody is present
    ∷ ("period\t2\t1\nmember\t1\t0\t1\t1\nmember\t2\t0\t31\t31\nday\t1\t1\nacct\t1\t0\tH\t40\t0\t0\t0\nday\t30\t1\nacct\t2\t0\tH\t20\t0\t0\t0\nend\n" gives "day\t1\t40\t40\ndaily\t1\t40\t1000000000000000\t4000\t4400\t8800\ndaily\t2\t0\t0\t0\t0\t0\ntotal\t40\t1000000000000000\t4000\t4400\t8800\nrefused\t5\t7\n")
    -- 5 for the account of the only member, which is absent
    ∷ ("period\t1\t1\nmember\t1\t0\t5\t6\nday\t4\t1\nacct\t1\t0\tH\t1\t0\t0\t0\nend\n" gives "refused\t5\t4\n")
    -- the first member is absent
    ∷ ("period\t2\t1\nmember\t1\t0\t5\t6\nmember\t2\t0\t1\t31\nday\t4\t1\nacct\t2\t0\tH\t1\t0\t0\t0\nend\n" gives "day\t4\t1\t1\ndaily\t1\t0\t0\t0\t0\t0\ndaily\t2\t1\t1000000000000000\t100\t110\t220\ntotal\t1\t1000000000000000\t100\t110\t220\nfund\t1\t1\t100000000\ncontribution\t1\t0\t50000000\t100000000\ncontribution\t2\t2\t50000000\t100000000\n")
    -- the second of three members is absent
    ∷ ("period\t3\t1\nmember\t1\t0\t1\t31\nmember\t2\t0\t10\t31\nmember\t3\t0\t1\t31\nday\t9\t2\nacct\t1\t0\tH\t10\t0\t0\t0\nacct\t3\t0\tH\t20\t0\t0\t0\nend\n" gives "day\t9\t30\t20\ndaily\t1\t10\t333333333333334\t667\t733\t1467\ndaily\t2\t0\t0\t0\t0\t0\ndaily\t3\t20\t666666666666667\t1333\t1467\t2933\ntotal\t30\t1000000000000001\t2000\t2200\t4400\nfund\t1\t20\t150000000\ncontribution\t1\t8\t50000000\t100000000\ncontribution\t2\t0\t50000000\t100000000\ncontribution\t3\t15\t50000000\t100000000\n")
    -- two members in a row are absent, and the last; one of them has left, two are to come
    ∷ ("period\t5\t1\nmember\t1\t0\t1\t31\nmember\t2\t0\t10\t31\nmember\t3\t0\t1\t8\nmember\t4\t0\t1\t31\nmember\t5\t0\t31\t31\nday\t9\t2\nacct\t1\t0\tH\t10\t0\t0\t0\nacct\t4\t0\tH\t20\t0\t0\t0\nend\n" gives "day\t9\t30\t20\ndaily\t1\t10\t333333333333334\t667\t733\t1467\ndaily\t2\t0\t0\t0\t0\t0\ndaily\t3\t0\t0\t0\t0\t0\ndaily\t4\t20\t666666666666667\t1333\t1467\t2933\ndaily\t5\t0\t0\t0\t0\t0\ntotal\t30\t1000000000000001\t2000\t2200\t4400\nfund\t1\t20\t250000000\ncontribution\t1\t8\t50000000\t100000000\ncontribution\t2\t0\t50000000\t100000000\ncontribution\t3\t0\t50000000\t100000000\ncontribution\t4\t15\t50000000\t100000000\ncontribution\t5\t0\t50000000\t100000000\n")
    -- an Affiliate joins two others: the highest is their sum, then the sum of all three
    ∷ ("period\t4\t1\nmember\t1\t1\t1\t31\nmember\t2\t1\t10\t31\nmember\t3\t1\t1\t31\nmember\t4\t0\t1\t31\nday\t9\t3\nacct\t1\t0\tH\t100\t0\t0\t0\nacct\t3\t0\tH\t30\t0\t0\t0\nacct\t4\t0\tH\t120\t0\t0\t0\nday\t10\t4\nacct\t1\t0\tH\t100\t0\t0\t0\nacct\t2\t0\tH\t80\t0\t0\t0\nacct\t3\t0\tH\t30\t0\t0\t0\nacct\t4\t0\tH\t120\t0\t0\t0\nend\n" gives "day\t9\t250\t130\ndaily\t1\t100\t400000000000000\t5200\t5720\t11440\ndaily\t2\t0\t0\t0\t0\t0\ndaily\t3\t30\t120000000000000\t1560\t1716\t3432\ndaily\t4\t120\t480000000000000\t6240\t6864\t13728\ntotal\t250\t1000000000000000\t13000\t14300\t28600\nday\t10\t330\t210\ndaily\t1\t100\t303030303030304\t6364\t7000\t14000\ndaily\t2\t80\t242424242424243\t5091\t5600\t11200\ndaily\t3\t30\t90909090909091\t1909\t2100\t4200\ndaily\t4\t120\t363636363636364\t7636\t8400\t16800\ntotal\t330\t1000000000000002\t21000\t23100\t46200\nfund\t2\t210\t200000000\ncontribution\t1\t82\t50000000\t100000000\ncontribution\t2\t29\t50000000\t100000000\ncontribution\t3\t25\t50000000\t100000000\ncontribution\t4\t98\t50000000\t100000000\n")
    -- 5 for an absent member's account, the first of all
    ∷ ("period\t2\t1\nmember\t1\t0\t5\t6\nmember\t2\t0\t1\t31\nday\t4\t2\nacct\t1\t0\tH\t390000000\t0\t0\t0\nacct\t2\t0\tH\t10000000\t0\t0\t0\nend\n" gives "refused\t5\t5\n")
    -- 5 for an absent member's account between those of two that are present
    ∷ ("period\t3\t1\nmember\t1\t0\t1\t31\nmember\t2\t0\t10\t31\nmember\t3\t0\t1\t31\nday\t9\t3\nacct\t1\t0\tH\t1\t0\t0\t0\nacct\t2\t0\tH\t2\t0\t0\t0\nacct\t3\t0\tH\t3\t0\t0\t0\nend\n" gives "refused\t5\t7\n")
    -- 5 for an absent member's account, the first, in place of the next member's
    ∷ ("period\t3\t1\nmember\t1\t0\t10\t31\nmember\t2\t0\t1\t31\nmember\t3\t0\t1\t31\nday\t9\t2\nacct\t1\t0\tH\t1\t0\t0\t0\nacct\t3\t0\tH\t3\t0\t0\t0\nend\n" gives "refused\t5\t6\n")
    -- 5 for an absent member's account in place of that of the member before it
    ∷ ("period\t3\t1\nmember\t1\t0\t1\t31\nmember\t2\t0\t10\t31\nmember\t3\t0\t1\t31\nday\t9\t2\nacct\t2\t0\tH\t2\t0\t0\t0\nacct\t3\t0\tH\t3\t0\t0\t0\nend\n" gives "refused\t5\t6\n")
    -- 5 for an absent member's account, the last, in place of the next member's
    ∷ ("period\t3\t1\nmember\t1\t0\t1\t31\nmember\t2\t0\t10\t31\nmember\t3\t0\t1\t31\nday\t9\t2\nacct\t1\t0\tH\t1\t0\t0\t0\nacct\t2\t0\tH\t2\t0\t0\t0\nend\n" gives "refused\t5\t7\n")
    -- 5 for an absent member's account, the last, in place of that of the member before it
    ∷ ("period\t3\t1\nmember\t1\t0\t1\t31\nmember\t2\t0\t1\t31\nmember\t3\t0\t10\t31\nday\t9\t2\nacct\t1\t0\tH\t1\t0\t0\t0\nacct\t3\t0\tH\t3\t0\t0\t0\nend\n" gives "refused\t5\t7\n")
    -- 5 for an absent member's account, not 6 for a base before it
    ∷ ("period\t2\t1\nmember\t1\t0\t1\t31\nmember\t2\t0\t10\t31\nday\t9\t2\nacct\t1\t0\tH\t1000000000001\t0\t0\t0\nacct\t2\t0\tH\t2\t0\t0\t0\nend\n" gives "refused\t5\t6\n")
    -- 5 past the accounts: the last present member is missing, an absent one comes after it
    ∷ ("period\t3\t1\nmember\t1\t0\t1\t31\nmember\t2\t0\t1\t31\nmember\t3\t0\t5\t5\nday\t4\t1\nacct\t1\t0\tH\t1\t0\t0\t0\nend\n" gives "refused\t5\t7\n")
    -- 5 past the accounts: the last member is missing, an absent one comes before it
    ∷ ("period\t3\t1\nmember\t1\t0\t1\t31\nmember\t2\t0\t10\t31\nmember\t3\t0\t1\t31\nday\t9\t1\nacct\t1\t0\tH\t1\t0\t0\t0\nend\n" gives "refused\t5\t7\n")
    -- 5 for a first account that passes over a present member, and over an absent one
    ∷ ("period\t3\t1\nmember\t1\t0\t5\t6\nmember\t2\t0\t1\t31\nmember\t3\t0\t1\t31\nday\t4\t1\nacct\t3\t0\tH\t1\t0\t0\t0\nend\n" gives "refused\t5\t6\n")
    -- 5 for an account that passes over an absent member, then over a present one
    ∷ ("period\t4\t1\nmember\t1\t0\t1\t31\nmember\t2\t0\t10\t31\nmember\t3\t0\t1\t31\nmember\t4\t0\t1\t31\nday\t9\t2\nacct\t1\t0\tH\t1\t0\t0\t0\nacct\t4\t0\tH\t4\t0\t0\t0\nend\n" gives "refused\t5\t8\n")
    -- 5 for an account that passes over a present member, then over an absent one
    ∷ ("period\t4\t1\nmember\t1\t0\t1\t31\nmember\t2\t0\t1\t31\nmember\t3\t0\t10\t31\nmember\t4\t0\t1\t31\nday\t9\t2\nacct\t1\t0\tH\t1\t0\t0\t0\nacct\t4\t0\tH\t4\t0\t0\t0\nend\n" gives "refused\t5\t8\n")
    -- a mean over two days, on one of which a member is absent: it is charged half of what its own day would make
    ∷ ("period\t2\t1\nmember\t1\t0\t1\t31\nmember\t2\t0\t10\t31\nday\t9\t1\nacct\t1\t0\tH\t100000000\t0\t0\t0\nday\t10\t2\nacct\t1\t0\tH\t100000000\t0\t0\t0\nacct\t2\t0\tH\t300000000\t0\t0\t0\nend\n" gives "day\t9\t100000000\t100000000\ndaily\t1\t100000000\t1000000000000000\t10000000000\t11000000000\t22000000000\ndaily\t2\t0\t0\t0\t0\t0\ntotal\t100000000\t1000000000000000\t10000000000\t11000000000\t22000000000\nday\t10\t400000000\t300000000\ndaily\t1\t100000000\t250000000000000\t7500000000\t8250000000\t16500000000\ndaily\t2\t300000000\t750000000000000\t22500000000\t24750000000\t49500000000\ntotal\t400000000\t1000000000000000\t30000000000\t33000000000\t66000000000\nfund\t2\t300000000\t330000000\ncontribution\t1\t206250000\t206250000\t412500000\ncontribution\t2\t123750000\t123750000\t247500000\n")
    -- absent on the one day that counts, present on one without losses: no charge
    ∷ ("period\t2\t1\nmember\t1\t0\t1\t31\nmember\t2\t0\t10\t31\nday\t9\t1\nacct\t1\t0\tH\t100000000\t0\t0\t0\nday\t10\t2\nacct\t1\t0\tH\t0\t0\t0\t0\nacct\t2\t0\tH\t0\t0\t0\t0\nend\n" gives "day\t9\t100000000\t100000000\ndaily\t1\t100000000\t1000000000000000\t10000000000\t11000000000\t22000000000\ndaily\t2\t0\t0\t0\t0\t0\ntotal\t100000000\t1000000000000000\t10000000000\t11000000000\t22000000000\nday\t10\t0\t100000000\ndaily\t1\t0\t0\t0\t0\t0\ndaily\t2\t0\t0\t0\t0\t0\ntotal\t0\t0\t0\t0\t0\nfund\t1\t100000000\t160000000\ncontribution\t1\t110000000\t110000000\t220000000\ncontribution\t2\t0\t50000000\t100000000\n")
    -- absent on a day without losses, present on the one that counts
    ∷ ("period\t2\t1\nmember\t1\t0\t1\t9\nmember\t2\t0\t10\t31\nday\t9\t1\nacct\t1\t0\tH\t0\t0\t0\t0\nday\t10\t1\nacct\t2\t0\tH\t100000000\t0\t0\t0\nend\n" gives "day\t9\t0\t0\ndaily\t1\t0\t0\t0\t0\t0\ndaily\t2\t0\t0\t0\t0\t0\ntotal\t0\t0\t0\t0\t0\nday\t10\t100000000\t100000000\ndaily\t1\t0\t0\t0\t0\t0\ndaily\t2\t100000000\t1000000000000000\t10000000000\t11000000000\t22000000000\ntotal\t100000000\t1000000000000000\t10000000000\t11000000000\t22000000000\nfund\t1\t100000000\t160000000\ncontribution\t1\t0\t50000000\t100000000\ncontribution\t2\t110000000\t110000000\t220000000\n")
    -- 10 for a first day 0
    ∷ ("period\t1\t1\nmember\t1\t0\t0\t31\nend\n" gives "refused\t10\t2\n")
    -- 10 for a first day 32, which is the last day too
    ∷ ("period\t1\t1\nmember\t1\t0\t32\t32\nend\n" gives "refused\t10\t2\n")
    -- 10 for a last day 0, which is the first day too
    ∷ ("period\t1\t1\nmember\t1\t0\t0\t0\nend\n" gives "refused\t10\t2\n")
    -- 10 for a last day 32
    ∷ ("period\t1\t1\nmember\t1\t0\t1\t32\nend\n" gives "refused\t10\t2\n")
    -- 10 for a first day one above the last
    ∷ ("period\t1\t1\nmember\t1\t0\t6\t5\nend\n" gives "refused\t10\t2\n")
    -- 10 for a first day 2^32 + 2
    ∷ ("period\t1\t1\nmember\t1\t0\t4294967298\t31\nend\n" gives "refused\t10\t2\n")
    -- 10 for a last day 2^32 + 2
    ∷ ("period\t1\t1\nmember\t1\t0\t1\t4294967298\nend\n" gives "refused\t10\t2\n")
    -- 10 for a first and a last day that have changed places
    ∷ ("period\t1\t1\nmember\t1\t0\t31\t1\nend\n" gives "refused\t10\t2\n")
    -- 10 at the second of four members, for its last day; the third one's first day is 0, the fourth one's is above its last
    ∷ ("period\t4\t1\nmember\t1\t0\t1\t31\nmember\t2\t0\t1\t32\nmember\t3\t0\t0\t31\nmember\t4\t0\t6\t5\nend\n" gives "refused\t10\t3\n")
    -- 10 at the second of three members, for its first day; the third one's last day is 32
    ∷ ("period\t3\t1\nmember\t1\t0\t1\t31\nmember\t2\t0\t0\t31\nmember\t3\t0\t1\t32\nend\n" gives "refused\t10\t3\n")
    -- 10 at the third of four members, for a first day above its last; the fourth one's last day is 32
    ∷ ("period\t4\t1\nmember\t1\t0\t1\t31\nmember\t2\t0\t31\t31\nmember\t3\t0\t9\t8\nmember\t4\t0\t1\t32\nend\n" gives "refused\t10\t4\n")
    -- 1 for the second member's group, not 10 at the first
    ∷ ("period\t2\t1\nmember\t1\t0\t6\t5\nmember\t2\t33\t1\t31\nend\n" gives "refused\t1\t1\n")
    -- 9 for the second member's line, not 10 at the first
    ∷ ("period\t2\t1\nmember\t1\t0\t6\t5\nmember\t2\t0\t1\tx\nend\n" gives "refused\t9\t3\n")
    -- 10 at the member, not 9 for a bad line after the members
    ∷ ("period\t1\t1\nmember\t1\t0\t6\t5\nx\n" gives "refused\t10\t2\n")
    -- 9 for a member line without its first and last day
    ∷ ("period\t2\t1\nmember\t1\t0\t1\t31\nmember\t2\t0\nday\t3\t2\nacct\t1\t0\tH\t390000000\t0\t0\t0\nacct\t2\t0\tH\t10000000\t0\t0\t0\nend\n" gives "refused\t9\t3\n")
    -- 9 for nothing for a first day
    ∷ ("period\t1\t1\nmember\t1\t0\t\t31\nend\n" gives "refused\t9\t2\n")
    -- 9 for a minus in a last day
    ∷ ("period\t1\t1\nmember\t1\t0\t1\t-1\nend\n" gives "refused\t9\t2\n")
    -- 10 for a first day of 13 digits
    ∷ ("period\t1\t1\nmember\t1\t0\t9999999999999\t31\nend\n" gives "refused\t10\t2\n")
    -- 10 for a last day of 13 digits
    ∷ ("period\t1\t1\nmember\t1\t0\t1\t9999999999999\nend\n" gives "refused\t10\t2\n")
    -- 9 for a first day 01
    ∷ ("period\t1\t1\nmember\t1\t0\t01\t31\nend\n" gives "refused\t9\t2\n")
    -- 9 for a minus in a first day
    ∷ ("period\t1\t1\nmember\t1\t0\t-1\t31\nend\n" gives "refused\t9\t2\n")
    -- 9 for a first day of 14 digits
    ∷ ("period\t1\t1\nmember\t1\t0\t10000000000000\t31\nend\n" gives "refused\t9\t2\n")
    -- 9 for nothing for a last day
    ∷ ("period\t1\t1\nmember\t1\t0\t1\t\nend\n" gives "refused\t9\t2\n")
    -- 9 for a last day 031
    ∷ ("period\t1\t1\nmember\t1\t0\t1\t031\nend\n" gives "refused\t9\t2\n")
    -- 9 for a last day of 14 digits
    ∷ ("period\t1\t1\nmember\t1\t0\t1\t10000000000000\nend\n" gives "refused\t9\t2\n")
    -- one member, who joins on day 31; 5 for its account on day 1
    ∷ ("period\t1\t1\nmember\t1\t0\t31\t31\nday\t1\t1\nacct\t1\t0\tH\t-463887590227\t0\t0\t-463887590228\nday\t9\t1\nacct\t1\t0\tH\t105387147301\t0\t0\t105387147259\nday\t14\t1\nacct\t1\t0\tH\t-714\t0\t0\t-722\nday\t18\t7\nacct\t1\t0\tH\t3\t0\t0\t-491751\nacct\t1\t8463\tR\t62339\t0\t0\t62420\nacct\t1\t20416\tR\t-1\t0\t0\t1\nacct\t1\t36875\tR\t0\t5\t0\t6\nacct\t1\t38773\tR\t-53965\t7457\t7457\t-61421\nacct\t1\t44439\tR\t-5\t0\t0\t-68150\nacct\t1\t58478\tA\t4300\t0\t0\t4336\nend\n" gives "refused\t5\t4\n")
    -- 10 at the last of four members, for a last day 0; the first one is absent
    ∷ ("period\t4\t3\nmember\t1\t0\t18\t22\nmember\t2\t0\t1\t31\nmember\t3\t0\t1\t31\nmember\t4\t0\t31\t0\nday\t3\t6\nacct\t2\t0\tH\t-999999999999\t0\t0\t0\t-1000000000000\t-999999999998\nacct\t2\t2\tU\t999999999999\t999999999999\t0\t999999999999\t0\t-1\nacct\t3\t0\tH\t0\t999999999999\t0\t-1000000000000\t1000000000000\t-999999999999\nacct\t4\t0\tH\t-1\t0\t0\t999999999999\t-2\t999999999998\nacct\t4\t1\tU\t-1\t0\t0\t-1\t-1\t0\nacct\t4\t2\tU\t0\t0\t0\t0\t-1\t0\nend\n" gives "refused\t10\t5\n")
    -- four groups of one member each, of whom the third joins on day 20 and the first alone loses on day 5
    ∷ ("period\t4\t3\nmember\t1\t5\t1\t31\nmember\t2\t17\t1\t31\nmember\t3\t12\t20\t31\nmember\t4\t7\t1\t31\nday\t5\t3\nacct\t1\t0\tH\t-52472820\t9530042937\t5949420984\t8679982735\t-9582515758\t712743431\nacct\t2\t0\tH\t-1317381562\t0\t0\t-1273835433\t-1271378345\t-754482105\nacct\t4\t0\tH\t-9528358673\t6278200811\t0\t-10466028353\t-9623785147\t-15806559484\nend\n" gives "day\t5\t5949420985\t5949420985\ndaily\t1\t5949420985\t1000000000000000\t594942098500\t654436308350\t1308872616700\ndaily\t2\t0\t0\t0\t0\t0\ndaily\t3\t0\t0\t0\t0\t0\ndaily\t4\t0\t0\t0\t0\t0\ntotal\t5949420985\t1000000000000000\t594942098500\t654436308350\t1308872616700\nfund\t1\t5949420985\t6694363084\ncontribution\t1\t6544363084\t6544363084\t13088726168\ncontribution\t2\t0\t50000000\t100000000\ncontribution\t3\t0\t50000000\t100000000\ncontribution\t4\t0\t50000000\t100000000\n")
    -- four members, one of whom left the day before, and one joined on day 20 and loses nothing
    ∷ ("period\t4\t1\nmember\t1\t0\t1\t31\nmember\t2\t1\t20\t26\nmember\t3\t1\t1\t31\nmember\t4\t32\t13\t25\nday\t26\t8\nacct\t1\t0\tH\t502\t152089\t152089\t498\nacct\t2\t0\tH\t2214\t0\t0\t2222\nacct\t3\t0\tH\t-4\t0\t0\t67451\nacct\t3\t2\tR\t-47472\t80020\t80020\t-720881\nacct\t3\t3\tU\t462\t231750\t0\t402\nacct\t3\t4\tR\t-53585\t0\t0\t-53589\nacct\t3\t5\tR\t-53585\t0\t0\t-53589\nacct\t3\t6\tR\t-992559\t6\t3\t-992528\nend\n" gives "day\t26\t673417\t673413\ndaily\t1\t4\t5939855989\t400\t440\t880\ndaily\t2\t0\t0\t0\t0\t0\ndaily\t3\t673413\t999994060144012\t67340900\t74074990\t148149980\ndaily\t4\t0\t0\t0\t0\t0\ntotal\t673417\t1000000000000001\t67341300\t74075430\t148150860\nfund\t1\t673413\t200000000\ncontribution\t1\t5\t50000000\t100000000\ncontribution\t2\t0\t50000000\t100000000\ncontribution\t3\t740750\t50000000\t100000000\ncontribution\t4\t0\t50000000\t100000000\n")
    ∷ []

-- Up to here it is written.

pub worked_texts : map (λ w. report_of (bytes w.text)) texts ≡ map (λ w. bytes w.report) texts
unfolding texts computed reads
worked_texts = refl

-- The 65,536 bytes of a day: where 65,514 are used, a line of 21 bytes and its LF fills them, and one of 22 is bad; a day starts with none.
abbrev begun : DayInput
begun = record { terms = record { number = 3 }; headings = []; npvs = []; margins = []; extras = [] }

pub bytes_filled :
    read_line (account start begun 4 2 65514) 5 (bytes "acct\t1\t0\tH\t100000\t0\t0")
    ≡ goes_on [] (account start (with_account begun (record { member = 1; number = 0; kind = 0; npvs = pos 100000 ∷ []; margin = 0; extra = 0 })) 4 2 65536)
unfolding computed reads
bytes_filled = refl

pub bytes_passed : read_line (account start begun 4 2 65514) 5 (bytes "acct\t1\t0\tH\t1000000\t0\t0") ≡ bad 5
unfolding computed reads
bytes_passed = refl

pub bytes_at_first : (g : Register) → read_day g 4 (Some (3 ∷ 2 ∷ [])) ≡ goes_on [] (account g begun 4 2 0)
unfolding computed reads
bytes_at_first g = refl

-- What no report shows: the number of a letter, "else 9", where A and U count alike and row 5 refuses every other; numbers of 20 digits.
pub letters : map (λ (s : String). kind_of (bytes s)) ("H" ∷ "R" ∷ "A" ∷ "U" ∷ "h" ∷ "" ∷ "HH" ∷ "9" ∷ []) ≡ 0 ∷ 1 ∷ 2 ∷ 3 ∷ 9 ∷ 9 ∷ 9 ∷ 9 ∷ []
unfolding computed reads
letters = refl

pub longest : map decimal (99999999999999999999 ∷ 10020030004000050009 ∷ 10000000000000000000 ∷ [])
    ≡ bytes "99999999999999999999" ∷ bytes "10020030004000050009" ∷ bytes "10000000000000000000" ∷ []
unfolding computed reads
longest = refl
