-- The loop over a day's acct lines. With j accounts in their places, the report from the first line on is the report of what is left, for the
-- day that they make; each law is the loop's start, its step or one of its exits.
use mathlib.Core.Path.{◌≡◌, ap, ◌∙◌}
use mathlib.Core.List.{List}
use Rattle.std.specs.Prelude.{None, Some}
use Prim.Native.Nat.{ℕ, ◌+◌, ◌-◌, ◌≤◌, ◌<◌}
use native.Mathlib.Omega.{arith}
use lib.ListN.{length, length-set}
use lib.Seq.{length-take-le}
use Rattle.methodology.specs.declared.DayTerms.{DayTerms}
use Rattle.methodology.specs.declared.Heading.{Heading}
use Rattle.methodology.specs.Account.{DayInput}
use Rattle.methodology.specs.Register.{Register}
use Rattle.methodology.specs.Text.{LF, split, AccountLine, account_of, account, report_from}
use Rattle.methodology.specs.Lines.{after, line_read}
use Rattle.methodology.proofs.Splits.{used_by}
use Rattle.accounts.specs.declared.Places.{Places}
use Rattle.accounts.specs.AcctLines.{EndsWith, day_read, accounts_due, day_due, FirstBad}
use Rattle.accounts.proofs.Line.{line_length, line_off, line_bad, line_over, line_more, line_last}
use Rattle.accounts.proofs.Stores.{stored, Room, day_more}

pub record ReadSoFar (text : List ℕ) (count k j : ℕ) (rest : List ℕ) (places : Places) : Type 0 where
  pub rest_is : EndsWith text rest
  pub shorter : length rest + j ≤ length text
  pub due :
      (g : Register) (terms : DayTerms) (at : ℕ) → g.held.k ≡ k → j < count
      → accounts_due text g terms at count
      ≡ report_from (at + 1 + j) (split LF rest) (account g (day_read terms j k places) at count (length text - length rest))
  pub done :
      (g : Register) (terms : DayTerms) (at : ℕ) → g.held.k ≡ k → j ≡ count
      → accounts_due text g terms at count ≡ day_due rest g (day_read terms j k places) at count

module _ {text : List ℕ} {count k j : ℕ} {rest : List ℕ} {places : Places} (b : ReadSoFar text count k j rest places) (h : j < count) where
  -- the line of account j is read, or not
  pub reading_bad : line_read (account_of k) rest ≡ None → FirstBad text count k j
  reading_bad none = record { few = h; due = λ g terms at e. b.due g terms at e h ∙ line_bad g _ at count _ (at + 1 + j) rest (rw e none) }

  module _ {a : AccountLine} {next : List ℕ} (read : line_read (account_of k) rest ≡ Some a) (n : next ≡ after LF rest) where
    used_is : used_by (length text - length rest) rest ≡ length text - length next
    used_is = omega (arith, b.shorter, ap length n, line_length (account_of k) rest a read)

    pub reading_over : 65536 < length text - length next → FirstBad text count k j
    reading_over l =
        record { few = h; due = λ g terms at e. b.due g terms at e h ∙ line_over g _ at count _ (at + 1 + j) rest (omega (arith, used_is)) }

    module _ (size : ℕ) (within : length text - length next ≤ 65536) (long : length a.npvs ≡ k + 1) (room : Room j k places) where
      abbrev day : DayTerms → DayInput
      day terms = day_read terms (j + 1) k (stored j k size a places)

      many : (terms : DayTerms) → length (day terms).headings ≡ j + 1
      many terms = length-take-le (j + 1) _ (omega (arith, room.heading, length-set {A = Heading}))

      few : used_by (length text - length rest) rest ≤ 65536
      few = omega (arith, used_is)

      pub reading_more : ReadSoFar text count k (j + 1) next (stored j k size a places)
      reading_more =
          record {
            rest_is = line_off (account_of k) text rest a next read n b.rest_is;
            shorter = omega (arith, b.shorter, ap length n, line_length (account_of k) rest a read);
            due = λ g terms at e l.
                let t : at + 1 + j + 1 ≡ at + 1 + (j + 1) = omega arith in
                let more = day_more terms j k size a places long room in
                let lined = line_more g _ at count _ (at + 1 + j) rest a (rw e read) few (day terms) more (omega (arith, many terms)) in
                b.due g terms at e h ∙ rw (← n, used_is, t) at lined;
            done = λ g terms at e l.
                let t : at + 1 + j + 1 ≡ at + 1 + count = omega arith in
                let more = day_more terms j k size a places long room in
                let lined = line_last g _ at count _ (at + 1 + j) rest a (rw e read) few (day terms) more (many terms ∙ l) in
                b.due g terms at e h ∙ rw (← n, t) at lined;
          }
