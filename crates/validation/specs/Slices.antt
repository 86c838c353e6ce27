-- How the program holds what calls bring: an opening, and a day's slices with what rows 4 to 6 of the refusal table leave of them.
use Rattle.std.specs.Prelude.{◌≡◌, List, [], map, ℕ, suc, ◌+◌, ◌-◌, ◌*◌, ◌≤◌, ◌<◌, ℤ, pos, nat_abs, length, get_or, take}
use Rattle.std.specs.List.{range_with_len, position_or_len}
use Rattle.methodology.specs.declared.Opening.{Opening}
use Rattle.methodology.specs.declared.Heading.{Heading}
use Rattle.methodology.specs.Account.{members, Account, nobody, kind_u}
use Rattle.methodology.specs.Refusals.{limit, bad_presence}

-- the same opening, with what f makes of each of its lists
abbrev pub with_each_list : Opening → (f : List ℕ → List ℕ) → Opening
with_each_list o f = record { n = o.n; k = o.k; groups = f o.groups; firsts = f o.firsts; lasts = f o.lasts }

-- An opening as a period keeps it, with each of its lists in 32 places, and back.
abbrev pub in_places : Opening → Opening
in_places o = with_each_list o (λ l. map (λ i. get_or l i 0) (range_with_len 0 32))

abbrev pub listed : Opening → Opening
listed o = with_each_list o (take o.n)

-- row 10 by its lists: the index of the first member whose days are bad, or how many members there are
abbrev pub first_bad : (firsts lasts : List ℕ) → ℕ
first_bad firsts lasts = position_or_len (λ m. bad_presence (get_or firsts (m - 1) 0) (get_or lasts (m - 1) 0)) (members (length firsts))

-- an account of nobody, for an index past the last
abbrev pub no_account : Account
no_account = record { heading = nobody; npvs = []; margin = 0; extra = 0 }

-- Slices within their limits: what rows 4 to 6 leave of a day's, and of each part that holds whole accounts.
pub record Within (k : ℕ) (headings : List Heading) (npvs : List ℤ) (margins extras : List ℕ) : Type 0 where
  pub few : length headings ≤ 256
  pub npvs_long : length npvs ≡ length headings * (k + 1)
  pub margins_long : length margins ≡ length headings
  pub extras_long : length extras ≡ length headings
  pub kind : (i : ℕ) → i < length headings → (get_or headings i nobody).kind ≤ kind_u
  pub npv : (x : ℕ) → x < length npvs → nat_abs (get_or npvs x (pos 0)) ≤ limit
  pub margin : (i : ℕ) → i < length headings → get_or margins i 0 ≤ limit
  pub extra : (i : ℕ) → i < length headings → get_or extras i 0 ≤ get_or margins i 0

-- members in rising order, each at least 1
pub record Rising (headings : List Heading) : Type 0 where
  pub least : (i : ℕ) → i < length headings → 1 ≤ (get_or headings i nobody).member
  pub next : (i : ℕ) → suc i < length headings → (get_or headings i nobody).member ≤ (get_or headings (suc i) nobody).member
