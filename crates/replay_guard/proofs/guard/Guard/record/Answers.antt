use Rattle.std.proofs.Common.{ap, ◌∙◌, inl, inr}
use Rattle.std.specs.Prelude.{IsOk}
use Rattle.std.proofs.lemmas.Result.{on_ok_weaker}
use Rattle.replay_guard.specs.Guard.{GuardState, IsPrepared, signer_of}
use Rattle.replay_guard.specs.Rows.{IsFirst}
use Rattle.replay_guard.proofs.Rows.{row_at, row_at_is, get_of_none, recorded_found, recorded_new}
use Rattle.replay_guard.proofs.guard.Guard.record.Goals as goal

pub add-requires : goal.add-requires
add-requires c = get_of_none c.args.self.now.latest c.self.inside.rows.items (signer_of c.args.signer) (ap (λ (g : GuardState). g.latest) c.self.view_is) (rw c.deref.ensures.value at c.in-None.ensures)

pub returns-in-Some-clause-ok : goal.returns-in-Some-clause-ok
returns-in-Some-clause-ok c =
    let rows = c.self.inside.rows.items in
    let first : IsFirst (signer_of c.args.signer) rows c.in-Some.at = rw c.deref.ensures.value at c.in-Some.ensures in
    let is = row_at_is rows c.in-Some.at first.within in
    recorded_found c.args.self.now.latest rows c.raise_at.new.rows.items c.in-Some.at (row_at rows c.in-Some.at) (signer_of c.args.signer) c.args.time c.args.seq
    (ap (λ (g : GuardState). g.latest) c.self.view_is) first is (c.raise_at.ensures (row_at rows c.in-Some.at) is)

pub returns-in-None-clause-ok : goal.returns-in-None-clause-ok
returns-in-None-clause-ok c =
    let none = get_of_none c.args.self.now.latest c.self.inside.rows.items (signer_of c.args.signer) (ap (λ (g : GuardState). g.latest) c.self.view_is) (rw c.deref.ensures.value at c.in-None.ensures) in
    on_ok_weaker c.add.result (λ h. h ∙ recorded_new c.args.self.now.latest (signer_of c.args.signer) c.args.time c.args.seq none) c.add.ensures.ok

pub returns-in-None-clause-promised : goal.returns-in-None-clause-promised
returns-in-None-clause-promised c = by_case
  where
    by_case : IsPrepared (c.args.self.now) (signer_of c.args.signer) → IsOk c.add.result
    by_case (inl some) =
        let none = get_of_none c.args.self.now.latest c.self.inside.rows.items (signer_of c.args.signer) (ap (λ (g : GuardState). g.latest) c.self.view_is) (rw c.deref.ensures.value at c.in-None.ensures) in
        let never = rw none at some in absurd cc
    by_case (inr prepared) = c.add.ensures.promised prepared
