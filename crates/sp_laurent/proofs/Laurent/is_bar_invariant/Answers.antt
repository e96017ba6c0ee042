use Rattle.std.proofs.Common.{◌≡◌, ◌↔◌, reverse, IsTrue, subst, sym}
use Rattle.sp_defs.specs.Laurent.{bar}
use Rattle.sp_algebra.proofs.Mirrored.{mirrored, bar_is}
use Rattle.sp_laurent.proofs.Laurent.is_bar_invariant.Goals as goal

pub returns : goal.returns
returns c =
    let p = c.self.inside.terms.items in
    let mirrors : IsTrue c.is_mirrored.result ↔ (reverse (mirrored p) ≡ p) =
    subst (λ q. IsTrue c.is_mirrored.result ↔ (reverse (mirrored q) ≡ q)) c.deref.ensures.value
    c.is_mirrored.ensures in
    let bars : IsTrue c.is_mirrored.result ↔ (bar p ≡ p) =
    subst (λ q. IsTrue c.is_mirrored.result ↔ (q ≡ p)) (sym (bar_is p c.self.invariant.laurent)) mirrors in
    subst (λ q. IsTrue c.is_mirrored.result ↔ (bar q ≡ q)) c.self.view_is bars
