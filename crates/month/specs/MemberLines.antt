-- The member lines of a text: the report where the first of them is due, and what reading them comes to.
use Rattle.std.specs.Prelude.{List, [], ◌≡◌, ℕ, ◌+◌, ◌≤◌, ◌<◌, length}
use Rattle.methodology.specs.declared.Opening.{Opening}
use Rattle.methodology.specs.declared.Refusal.TheVariants.{BadLine}
use Rattle.methodology.specs.Register.{Call, start, refusal}
use Rattle.methodology.specs.Text.{LF, split, refused_line, member, opened, followed_by, report_from}
use Rattle.period.specs.Reading.{brought}

-- the report of a text from the line at its front on, where the first member line of n is due
abbrev pub members_due : (text : List ℕ) → (n k : ℕ) → List ℕ
members_due text n k = report_from 2 (split LF text) (member (brought n k [] [] []))

-- the report where all were read and the next line is at the front of the rest: the opening call is made
abbrev pub opening_due : (rest : List ℕ) → Opening → List ℕ
opening_due rest o = followed_by (opened (refusal start (Call.opening o)) o) (report_from (2 + o.n) (split LF rest))

-- all member lines of an opening were read, its groups, first days and last days are these, and the rest follows
pub record MembersRead (text : List ℕ) (groups firsts lasts rest : List ℕ) : Type 0 where
  pub shorter : length rest + length groups ≤ length text
  pub due : (k : ℕ) → members_due text (length groups) k ≡ opening_due rest (brought (length groups) k groups firsts lasts)

-- the line of member j + 1 of n is the first bad one
pub record MemberBad (text : List ℕ) (n j : ℕ) : Type 0 where
  pub few : j < n
  pub due : (k : ℕ) → members_due text n k ≡ refused_line BadLine (2 + j)
