-- `field` meets its contract: the library's digits are those of `decimal`.
use Prim.Native.Nat.{ℕ, zero, suc, ◌+◌, ◌/◌, ◌%◌, ◌≤◌, ◌<◌, ◌^◌}
use mathlib.Core.Path.{◌≡◌, sym}
use mathlib.Core.List.{List, [], ◌∷◌, ◌++◌}
use native.Mathlib.Omega.{arith}
use borrow.Author.Tests.{lt-ltb, le-ltb}
use Rattle.std.specs.Fmt.{decimal as library_decimal}
use Rattle.std.proofs.lemmas.Fmt.{AppendsLastDigit, decimal_from_appends, length-decimal-le}
use Rattle.methodology.specs.Text.{digits, decimal}
use Rattle.report.proofs.Laws.{prints_then}
use Rattle.report.proofs.Printer.field.Goals as goal

-- at most k digits
abbrev at_most : (k n : ℕ) → List ℕ
at_most zero n = []
at_most (suc k) n = digits k n

by_last : AppendsLastDigit at_most
unfolding digits
by_last = record { one = one; more = more }
  where
    one : (k n : ℕ) → n < 10 → at_most (suc k) n ≡ (48 + n) ∷ []
    one k n h = grind (arith, lt-ltb)

    more : (k n : ℕ) → 10 ≤ n → at_most (suc k) n ≡ at_most k (n / 10) ++ ((48 + n % 10) ∷ [])
    more k n h = grind (arith, le-ltb)

decimal_is : (n : ℕ) → n < 2 ^ 64 → library_decimal n ≡ decimal n
decimal_is n h = sym (decimal_from_appends at_most by_last 20 n h (length-decimal-le 20 n (omega arith) (omega arith) h))

pub returns : goal.returns
returns c = prints_then c.bytes.ensures (rw (c.as_bytes-digits.ensures.value, c.format.ensures.text, decimal_is c.args.x c.ranges.x.fits) at c.bytes-2.ensures)
