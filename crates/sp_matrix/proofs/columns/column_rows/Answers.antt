use Rattle.std.proofs.Common.{◌≡◌, Bool, true, false, List, ℕ, Some, sym, ◌∙◌, ap}
use Rattle.sp_core.specs.declared.piece.Key.{Key}
use Rattle.sp_llt.specs.declared.refused.Refused.{Refused}
use Rattle.sp_llt.specs.declared.refused.FirstRefused.{FirstRefused}
use Rattle.sp_matrix.specs.declared.scope.Scope.{Scope}
use Rattle.sp_matrix.specs.Refusal.{refused_column}
use Rattle.sp_matrix.specs.Scope.{is_in}
use Rattle.sp_matrix.proofs.WalkedColumns.{entry_before, walked_none, walked_past, walked_row, walked_refused}
use Rattle.sp_matrix.proofs.WalkedColumns.{walked_rows, walked_whole}
use Rattle.sp_matrix.proofs.columns.column_rows.Goals as goal

abbrev refusal : List ℕ → Refused → FirstRefused
refusal x why = record { mu = x; why = why }

-- the test that the code makes is that of the scope, at the key's e
tested : (key told : Key) (s : Scope) (mu : List ℕ) (has b : Bool) → told ≡ key → has ≡ is_in told.e s mu → has ≡ b →
    is_in key.e s mu ≡ b
tested key told s mu has b same is e = ap (λ (q : Key). is_in q.e s mu) (sym same) ∙ sym is ∙ e

pub loop-k-init : goal.loop-k-init
loop-k-init c =
    walked_none c.args.ctx.now c.args.scope.now c.args.rows.now c.new-list.result.items c.requires
    c.new-list.ensures.items

pub loop-k-preserved-in-Continue-1 : goal.loop-k-preserved-in-Continue-1
loop-k-preserved-in-Continue-1 c =
    let key = c.args.ctx.now in
    let s = c.args.scope.now in
    let mu = c.mu.result.now in
    let entry = entry_before key c.args.rows.now c.loop-k.k c.index-rows-k.result c.deref-entry.result.now mu
    c.requires c.loop-k-test.true c.loop-k.auto.k c.index-rows-k.is c.deref-entry.ensures c.mu.ensures.value in
    let is = tested key c.key-e.result s mu c.has.result true c.key-e.ensures.value c.has.ensures c.if-has.true in
    walked_row key s c.loop-k.list.items c.loop-k.k c.deref-entry.result.now mu c.loop-k.invariant entry is
    c.in-Ok.row c.push.new.list.items c.in-Ok.ensures.row c.in-Ok.ensures.outcome
    c.in_ok-push-in-Ok.ensures.more

pub returns-in-Err-clause-refused : goal.returns-in-Err-clause-refused
returns-in-Err-clause-refused c =
    let key = c.args.ctx.now in
    let s = c.args.scope.now in
    let mu = c.mu.result.now in
    let entry = entry_before key c.args.rows.now c.loop-k.k c.index-rows-k.result c.deref-entry.result.now mu
    c.requires c.loop-k-test.true c.loop-k.auto.k c.index-rows-k.is c.deref-entry.ensures c.mu.ensures.value in
    let is = tested key c.key-e.result s mu c.has.result true c.key-e.ensures.value c.has.ensures c.if-has.true in
    let told = walked_refused key s c.loop-k.list.items c.loop-k.k c.deref-entry.result.now mu c.loop-k.invariant entry
    is c.in-Err.why c.in-Err.ensures.outcome in
    let again = ap (λ x. Some (refusal x c.in-Err.why)) (c.mu.ensures.value ∙ sym c.mu-in-Err.ensures.value) in
    λ refused e.
    let same : refusal c.mu-in-Err.result.now c.in-Err.why ≡ refused = cc in
    told ∙ again ∙ ap Some same

pub loop-k-preserved : goal.loop-k-preserved
loop-k-preserved c =
    let key = c.args.ctx.now in
    let s = c.args.scope.now in
    let mu = c.mu.result.now in
    let entry = entry_before key c.args.rows.now c.loop-k.k c.index-rows-k.result c.deref-entry.result.now mu
    c.requires c.loop-k-test.true c.loop-k.auto.k c.index-rows-k.is c.deref-entry.ensures c.mu.ensures.value in
    walked_past key s c.loop-k.list.items c.loop-k.k c.deref-entry.result.now mu c.loop-k.invariant entry
    (tested key c.key-e.result s mu c.has.result false c.key-e.ensures.value c.has.ensures c.if-has.false)

pub returns-clause-rows : goal.returns-clause-rows
returns-clause-rows c =
    walked_rows c.args.ctx.now c.args.scope.now c.loop-k.list.items c.loop-k.k c.loop-k-test.false c.loop-k.invariant

pub returns-clause-whole : goal.returns-clause-whole
unfolding refused_column
returns-clause-whole c =
    walked_whole c.args.ctx.now c.args.scope.now c.loop-k.list.items c.loop-k.k c.loop-k-test.false c.loop-k.invariant
