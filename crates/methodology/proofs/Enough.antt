-- Enough bytes for the report of a text, from what is expected on: at first 2,131,010 are. A line takes its own from them, and those that
-- are left are enough for what is expected next.
use mathlib.Core.Path.{◌≡◌, refl}
use mathlib.Core.Bool.{not, ◌||◌}
use mathlib.Core.List.{List, [], ◌∷◌, ◌++◌}
use Rattle.std.specs.Prelude.{Option, None, Some}
use Prim.Native.Nat.{ℕ, ◌+◌, ◌*◌, ◌≤◌, ◌<◌}
use native.Mathlib.Omega.{arith}
use lib.Dec.{ltb, eqb}
use lib.ListN.{length, get_or, length-append}
use borrow.Author.Tests.{ltb-false, eqb-false}
use Rattle.numbers.proofs.Tests.{neither}
use Rattle.std.specs.Prelude.{Ok, Err}
use Rattle.methodology.specs.declared.Refusal.TheVariants.{OutOfTurn, BadDayNumber, BadLengths}
use Rattle.methodology.specs.declared.Opening.{Opening}
use Rattle.methodology.specs.Account.{DayInput}
use Rattle.methodology.specs.Refusals.{Verdict, clear, is_open, n_outside, k_outside, count_outside, bad_input, bad_output, bad_day_number, day_rows, day_refusal}
use Rattle.methodology.specs.Register.{Call, Register, start, last_number, refusal, accept, step}
use Rattle.methodology.specs.Text.{bytes, same, AccountLine, Expected, period, member, day, account, after_end, Read, ends, goes_on, read_period, opened, read_member, read_day, sized, with_account, with_member, read_account, read_line}
use Rattle.methodology.proofs.Passed.{inside, passed, either, by_test, number_rises}

-- the most bytes of a good line with its LF, and of a day's lines, which are its day line and its acct lines
abbrev pub a_line : ℕ
a_line = 513

abbrev a_day : ℕ
a_day = a_line + 65536

-- m bytes are enough: for the lines that can still come, and for one bad line after them. Day numbers rise to 31, and a day whose number
-- does not rise is read before it is refused.
abbrev pub Enough : (m : ℕ) → Expected → Type 0
Enough m period = a_line + (32 * a_line + (a_line + 32 * a_day)) ≤ m
Enough m (member o) = (length o.groups < o.n) × (o.n ≤ 32) × (32 * a_line + (a_line + 32 * a_day) ≤ m + a_line * length o.groups)
Enough m (day g) = (last_number g.days ≤ 31) × (a_line + 32 * a_day ≤ m + a_day * last_number g.days)
Enough m (account g d at count used) = (last_number g.days ≤ 31) × (used ≤ 65536) × (32 * a_day ≤ m + used + a_day * last_number g.days)
Enough m (after_end g at) = a_line ≤ m

-- m bytes are enough after a line, where the report goes on
abbrev pub EnoughAfter : (m : ℕ) → Read → Type 0
EnoughAfter m (ends report) = Unit {0}
EnoughAfter m (goes_on report next) = Enough m next

-- there is a line to read
pub enough_line : (m : ℕ) (e : Expected) → Enough m e → a_line ≤ m
enough_line m period k = omega arith
enough_line m (member o) k = omega arith
enough_line m (day g) k = omega arith
enough_line m (account g d at count used) k = omega arith
enough_line m (after_end g at) k = k

-- ---- a line of l bytes, after which m are left

after_period : (m l i : ℕ) (read : Option (List ℕ)) → l < a_line → Enough (l + 1 + m) period → EnoughAfter m (read_period i read)
unfolding read_period
after_period m l i None h k = tt
after_period m l i (Some ns) h k =
    by_test (EnoughAfter m) (n_outside (get_or ns 0 0) || k_outside (get_or ns 1 0)) _ _ (λ e. tt)
    (λ e. let w = inside _ _ (get_or ns 0 0) (neither (n_outside (get_or ns 0 0)) _ e).0 in omega arith)

after_opened : (m : ℕ) (x : Verdict) (o : Opening) → a_line + 32 * a_day ≤ m → EnoughAfter m (opened x o)
unfolding opened step accept
after_opened m (Ok _) o h =
    let none_yet : last_number (step start (Call.opening o)).days ≡ 0 = either (λ (g : Register). last_number g.days ≡ 0) (refusal start (Call.opening o)) _ _ (λ e. refl) refl in
    omega arith
after_opened m (Err row) o h = tt

after_member : (m l : ℕ) (o : Opening) (i : ℕ) (read : Option (List ℕ)) → l < a_line → Enough (l + 1 + m) (member o) → EnoughAfter m (read_member o i read)
unfolding read_member with_member
after_member m l o i None h k = tt
after_member m l o i (Some ns) h k =
    let groups = o.groups ++ (get_or ns 1 0 ∷ []) in
    let longer = length-append o.groups (get_or ns 1 0 ∷ []) in
    by_test (EnoughAfter m) (eqb (get_or ns 0 0) (length groups)) _ _
    (λ q. by_test (EnoughAfter m) (eqb (length groups) o.n) _ _ (λ all. after_opened m _ _ (omega arith)) (λ more. let n = eqb-false (length groups) o.n more in omega arith))
    (λ q. tt)

after_day : (m l : ℕ) (g : Register) (i : ℕ) (read : Option (List ℕ)) → l < a_line → Enough (l + 1 + m) (day g) → EnoughAfter m (read_day g i read)
unfolding read_day
after_day m l g i None h k = tt
after_day m l g i (Some ns) h k = by_test (EnoughAfter m) (count_outside (get_or ns 1 0)) _ _ (λ e. tt) (λ e. omega arith)

-- an accepted day's number is above the last, and at most 31
pub rises : (g : Register) (d : DayInput) (room : ℕ) → refusal g (Call.day d room) ≡ clear → (last_number g.days < d.terms.number) × (d.terms.number ≤ 31)
unfolding refusal day_refusal day_rows
rises g d room e =
    let (_, r₁) = passed OutOfTurn (not (is_open g.status)) _ e in
    let (_, r₂) = passed BadLengths (bad_output g.held room) _ r₁ in
    let (_, r₃) = passed BadLengths (bad_input g.held d) _ r₂ in
    let (e3, _) = passed BadDayNumber (bad_day_number (last_number g.days) d.terms.number) _ r₃ in
    let (high, above) = number_rises (last_number g.days) d.terms.number e3 in
    (above, high)

after_sized : (m : ℕ) (x : Verdict) (g : Register) (d : DayInput) (i : ℕ) → refusal g (Call.day d (5 * g.held.n)) ≡ x
    → 32 * a_day ≤ m + 65536 + a_day * last_number g.days → EnoughAfter m (sized x g d i)
unfolding sized step accept
after_sized m (Ok _) g d i e h = let r = rises g d _ e in rw e (omega arith)
after_sized m (Err row) g d i e h = tt

after_account : (m : ℕ) (g : Register) (d : DayInput) (at count used i : ℕ) (read : Option AccountLine) → Enough m (account g d at count used)
    → EnoughAfter m (read_account g d at count used i read)
unfolding read_account
after_account m g d at count used i None k = tt
after_account m g d at count used i (Some a) k =
    by_test (EnoughAfter m) (eqb (length (with_account d a).headings) count) _ _ (λ all. after_sized m _ g (with_account d a) at refl (omega arith)) (λ more. k)

pub after_line : (m : ℕ) (e : Expected) (i : ℕ) (l : List ℕ) → length l < a_line → Enough (length l + 1 + m) e → EnoughAfter m (read_line e i l)
unfolding read_line
after_line m period i l h k = after_period m (length l) i _ h k
after_line m (member o) i l h k = after_member m (length l) o i _ h k
after_line m (day g) i l h k = by_test (EnoughAfter m) (same l (bytes "end")) _ _ (λ e. omega arith) (λ e. after_day m (length l) g i _ h k)
after_line m (account g d at count used) i l h k =
    let now = used + length l + 1 in
    by_test (EnoughAfter m) (ltb 65536 now) _ _ (λ e. tt) (λ e. let w = ltb-false 65536 now e in after_account m g d at count now i _ (omega arith))
after_line m (after_end g at) i l h k = tt
