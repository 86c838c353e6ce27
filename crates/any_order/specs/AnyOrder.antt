-- Document 02, Change 5: "The step from one member's accounts to its EUL, under a scenario or its own, keeps no temporary buffer of client
-- losses nor any other [..], and finds the sum and the two largest in passing. Show of this step that the EUL is the same in whatever order the
-- member's client accounts come, each with its kind and amounts, equal losses among them. No answer changes." No definition and no contract
-- has moved. `AnyOrder` is the claim. That the step keeps no buffer is no theorem: `tests/step.py` reads it off the compiled functions.
use Rattle.std.specs.Prelude.{◌≡◌, false, ℕ, ◌+◌, ◌≤◌, ℤ, nat_abs, length}
use Rattle.std.specs.List.{AllByRecursion}
use mathlib.Core.List.{List, map, Permᴰ}
use seplogic.Ra.Ura.{Ura}
use base.Logic.{SProp, sep}
use prog.Memory.{Memory}
use prog.Routine.{Routine}
use types.Logic.{Logic}
use contract.Monad.{Fun, fact}
use contract.Lifetimes.{Lfts}
use denote.Triple.Entry.{Args}
use Rattle.methodology.specs.declared.Opening.{Opening}
use Rattle.methodology.specs.Account.{Account, kind_u}
use Rattle.methodology.specs.Member.{accounts_of, member_eul, loss}
use Rattle.methodology.specs.Day.{total, own_max_eul}
use Rattle.methodology.specs.Refusals.{bad_amount}
use Rattle.exposure.specs.declared.accounts.Accounts.{Accounts}
use Rattle.exposure.specs.declared.account.Scenario.{Scenario}
use Rattle.exposure.specs.Scenario.{stress_read, eul_by}
use Rattle.exposure.specs.AccountsIn.{accounts_in, most_eul}
use Rattle.exposure.specs.contracts.accounts.Accounts.eul as eul-fn
use Rattle.exposure.proofs.accounts.Accounts.eul.Symbol as eul-code
use Rattle.demand3.proofs.Demand3.{Compiled, CallOf, AsEnsured, MeetsContract}

-- ---- accounts in another order

-- "each with its kind and amounts": what an account has but for its member and its number, by which it has its place in a day
abbrev pub kind_and_amounts : Account → ℕ × List ℤ × ℕ × ℕ
kind_and_amounts a = (a.heading.kind, a.npvs, a.margin, a.extra)

-- The same accounts in any order, under whatever members and numbers, equal ones among them. `Permᴰ` is the library's: no element, or the same one in
-- front of both, or the first two exchanged, or one such step after another.
abbrev pub SameAccounts : List Account → List Account → Type 0
SameAccounts xs ys = Permᴰ (map kind_and_amounts xs) (map kind_and_amounts ys)

-- of two lists of a day's accounts: each loss is the same, and so are T and the day's own Max EUL
pub record SameDay (o : Opening) (xs ys : List Account) : Type 0 where
  pub losses : (m : ℕ) → loss o.k xs m ≡ loss o.k ys m
  pub totals : total o xs ≡ total o ys
  pub own_max_euls : own_max_eul o xs ≡ own_max_eul o ys

-- ---- the step

-- "The step from one member's accounts to its EUL, under a scenario or its own": `Accounts::eul` in exposure/src/accounts.rt
abbrev pub eul_step : Compiled
eul_step = record { ended = eul-fn.ended; clauses = eul-fn.clauses; code = eul-code.code; name = eul-code.name }

-- a call's arguments: the member's accounts, in their slices, and the scenario or its own
abbrev pub accounts_lent : CallOf eul_step → Accounts
accounts_lent c = let (self, (scenario, _)) = c.arguments in self.now

abbrev pub scenario_of : CallOf eul_step → Scenario
scenario_of c = let (self, (scenario, _)) = c.arguments in scenario

-- an account as rows 4 to 6 of the refusal table leave it, where there are k scenarios
pub record AccountWithin (k : ℕ) (a : Account) : Type 0 where
  pub kind : a.heading.kind ≤ kind_u
  pub npvs_long : length a.npvs ≡ k + 1
  pub amounts : bad_amount a ≡ false

-- ---- Change 5

pub record AnyOrder : Type 2 where
  -- Whatever is taken for an account's EUL, the member's is the same in every order of its accounts, the house account among them.
  pub in_any_order : (eul : Account → ℤ) (xs ys : List Account) → Permᴰ xs ys → member_eul eul xs ≡ member_eul eul ys
  -- "under a scenario or its own", "each with its kind and amounts"
  pub same_eul : (k : ℕ) (s : Scenario) (xs ys : List Account) → SameAccounts xs ys → member_eul (eul_by k s) xs ≡ member_eul (eul_by k s) ys
  -- So are a day's figures, where each member has the same accounts in any order.
  pub same_day : (o : Opening) (xs ys : List Account) → ((m : ℕ) → SameAccounts (accounts_of m xs) (accounts_of m ys)) → SameDay o xs ys
  -- It is about the program: the step meets its contract, and its clauses, whole, ask that a scenario's number is not above the accounts'
  -- k, and for no order of theirs, and give the member's EUL, with a bound of it.
  pub step_meets : MeetsContract eul_step
  pub step_clauses :
      {M : Type 1} {𝓤 : Ura M} (𝓛 : Logic 𝓤) (mem : Memory → SProp 𝓤) (run : Routine → Fun 𝓤)
      (κs : Lfts eul_step.ended.signature.lifetimes) (a : Args eul_step.ended.signature κs)
      → let (self, (scenario, _)) = a in
      eul_step.clauses 𝓛 mem run κs a
      ≡ record {
        ghost = Unit {0};
        requires = λ _. fact 𝓤 (stress_read scenario ≤ self.now.k);
        ensures =
            λ _ r e. sep 𝓤 (fact 𝓤 (r ≡ member_eul (eul_by self.now.k scenario) (accounts_in self.now))) (fact 𝓤 (nat_abs r ≤ most_eul));
      }
  -- So two compiled calls of it with one k, under one scenario or both own, whose slices hold the same accounts in any order, return the same
  -- number. All that is known of each is its own `ensures`.
  pub two_calls :
      {M : Type 1} {𝓤 : Ura M} (𝓛 : Logic 𝓤) (mem : Memory → SProp 𝓤) (run : Routine → Fun 𝓤)
      (c d : CallOf eul_step) → AsEnsured 𝓛 mem run c → AsEnsured 𝓛 mem run d
      → (accounts_lent c).k ≡ (accounts_lent d).k → scenario_of c ≡ scenario_of d
      → SameAccounts (accounts_in (accounts_lent c)) (accounts_in (accounts_lent d))
      → c.result ≡ d.result
  -- It is not about nothing: the step's argument has a value, a plain one, for all accounts that rows 4 to 6 leave, up to 256 with up to 16
  -- scenarios, in the order in which they are listed.
  pub every_order : (k : ℕ) (xs : List Account) → k ≤ 16 → length xs ≤ 256 → AllByRecursion (AccountWithin k) xs
      → (a : Accounts) × (a.k ≡ k) × (accounts_in a ≡ xs)
