-- `Accounts::eul` meets its contract: the pass of `MemberPass`, account by account.
use native.Mathlib.Omega.{arith}
use mir.Syntax.{w64}
use Rattle.numbers.proofs.Signed.{back_ok}
use Rattle.exposure.specs.AccountsIn.{slices_in}
use Rattle.exposure.proofs.MemberPass.{pass_none, pass_small, pass_all, pass_more, row_npvs, owed, eul_near}
use Rattle.exposure.proofs.accounts.Accounts.eul.Goals as goal

pub loop-i-init : goal.loop-i-init
loop-i-init c = pass_none _ _

pub fall-fall-requires : goal.fall-fall-requires
fall-fall-requires c =
    let a = c.args.self.now in
    row_npvs a.k c.args.scenario (slices_in a) a.within c.loop-i.invariant c.loop-i-test.true c.requires

pub eul-own-requires : goal.eul-own-requires
eul-own-requires c =
    let a = c.args.self.now in
    owed a.k c.args.scenario (slices_in a) a.within c.loop-i.invariant c.loop-i-test.true c.requires _ c.fall-fall.ensures

pub with-tally-requires : goal.with-tally-requires
with-tally-requires c =
    let a = c.args.self.now in
    let e = c.eul-own in (
      pass_small a.k c.args.scenario (slices_in a) a.within c.loop-i.invariant (omega (arith, c.loop-i-test.true)),
      a.within.kind _ c.loop-i-test.true,
      eul_near a.k c.args.scenario (slices_in a) a.within c.loop-i.invariant c.loop-i-test.true c.requires _ e.result c.fall-fall.ensures e.type_inv e.ensures,
    )

pub loop-i-preserved : goal.loop-i-preserved
loop-i-preserved c =
    let a = c.args.self.now in
    let e = c.eul-own in
    pass_more a.k c.args.scenario (slices_in a) a.within c.loop-i.invariant c.loop-i-test.true c.requires _ e.result c.fall-fall.ensures e.type_inv e.ensures _ c.with-tally.ensures

pub returns : goal.returns
returns c =
    let a = c.args.self.now in
    let e = c.eul in
    let r = pass_all a.k c.args.scenario (slices_in a) a.within c.loop-i.invariant c.loop-i.auto.i-end c.loop-i-test.false e.result e.ensures in
    rw (back_ok w64 e.result e.type_inv) (record { is = r.0; bound = r.1 })
