-- What reading a day's acct lines comes to: the report from the first of them on, in terms of the accounts that stand in the places, or of
-- the first bad line.
use Rattle.std.specs.Prelude.{List, ◌≡◌, ℕ, ◌+◌, ◌-◌, ◌*◌, ◌≤◌, ◌<◌, pos, length, take, drop, replicate}
use Rattle.methodology.specs.declared.DayTerms.{DayTerms}
use Rattle.methodology.specs.declared.Refusal.TheVariants.{BadLine}
use Rattle.methodology.specs.Account.{DayInput, no_accounts, nobody}
use Rattle.methodology.specs.Register.{Call, Register, refusal}
use Rattle.methodology.specs.Text.{LF, split, refused_line, account, sized, followed_by, report_from}
use Rattle.accounts.specs.declared.Places.{Places}

-- places before the first day
abbrev pub cleared : Places
cleared = record { headings = replicate 256 nobody; npvs = replicate 4352 (pos 0); margins = replicate 256 0; extras = replicate 256 0 }

-- the rest is what the text ends with
abbrev pub EndsWith : (text rest : List ℕ) → Type 0
EndsWith text rest = rest ≡ drop (length text - length rest) text

-- the same day with other terms
abbrev pub with_terms : DayTerms → DayInput → DayInput
with_terms terms d = record { terms = terms; headings = d.headings; npvs = d.npvs; margins = d.margins; extras = d.extras }

-- a day of the accounts in the first `count` places, with k + 1 NPVs each
abbrev pub day_read : DayTerms → (count k : ℕ) → Places → DayInput
day_read terms count k places =
    record {
      terms = terms;
      headings = take count places.headings;
      npvs = take (count * (k + 1)) places.npvs;
      margins = take count places.margins;
      extras = take count places.extras;
    }

-- The report of a text from the line at its front on, where a day's first acct line is due; the day line was `at`.
abbrev pub accounts_due : (text : List ℕ) → Register → DayTerms → (at count : ℕ) → List ℕ
accounts_due text g terms at count = report_from (at + 1) (split LF text) (account g (no_accounts terms) at count 0)

-- the report where all were read and the next line is at the front of the rest: the day call is made
abbrev pub day_due : (rest : List ℕ) → Register → DayInput → (at count : ℕ) → List ℕ
day_due rest g d at count =
    followed_by (sized (refusal g (Call.day d (5 * g.held.n))) g d at) (report_from (at + 1 + count) (split LF rest))

-- all accounts of a day, k stresses each, were read and make the day d of these terms, and the rest follows their lines
pub record AllRead (text : List ℕ) (terms : DayTerms) (count k : ℕ) (d : DayInput) (rest : List ℕ) : Type 0 where
  pub terms_are : d.terms ≡ terms
  pub many : length d.headings ≡ count
  pub npvs_long : length d.npvs ≡ count * (k + 1)
  pub margins_long : length d.margins ≡ count
  pub extras_long : length d.extras ≡ count
  pub rest_is : EndsWith text rest
  pub shorter : length rest + count ≤ length text
  pub due :
      (g : Register) (t : DayTerms) (at : ℕ) → g.held.k ≡ k
      → accounts_due text g t at count ≡ day_due rest g (with_terms t d) at count

-- the line of account j, counted from 0, is the first bad one
pub record FirstBad (text : List ℕ) (count k j : ℕ) : Type 0 where
  pub few : j < count
  pub due :
      (g : Register) (terms : DayTerms) (at : ℕ) → g.held.k ≡ k → accounts_due text g terms at count ≡ refused_line BadLine (at + 1 + j)
