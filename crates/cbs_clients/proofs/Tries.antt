-- Messages that are tried again at a full ring.
use Rattle.std.proofs.Common.{ℕ, Result, Ok, Err, refl, ◌∙◌, arith}
use Rattle.cbs_job.specs.declared.work.Work.{Ghosts}
use Rattle.cbs_clients.specs.declared.client.Client.{Client}
use Rattle.cbs_clients.specs.declared.client.SendRefused.{SendRefused}
use Rattle.cbs_clients.specs.declared.error.SendError.{SendError}
use Rattle.cbs_clients.specs.Calls.{LooksAtRing, SendOf, EndOf}

module _ {W A : Type 0} {g : Ghosts W} where
  -- a client that did nothing
  pub looks_same : (a : Client W A g) → LooksAtRing a a
  looks_same a = record { same = (refl, refl); sent = refl; looked = omega arith }

  -- looks, and more looks
  pub looks_on : (a b c : Client W A g) → LooksAtRing a b → LooksAtRing b c → LooksAtRing a c
  looks_on a b c p q = record {
    same = (q.same.0 ∙ p.same.0, q.same.1 ∙ p.same.1);
    sent = q.sent ∙ p.sent;
    looked = let l = p.looked in let m = q.looked in omega (arith, l, m);
  }

  -- a send that is refused only looks
  pub send_refused : (a b : Client W A g) (job : W) (refused : SendRefused W) → SendOf job a (Err refused) b → LooksAtRing a b
  send_refused a b job refused k = record { same = k.same; sent = k.back.1; looked = k.left }

  pub end_refused : (a b : Client W A g) (error : SendError) → EndOf a (Err error) b → LooksAtRing a b
  end_refused a b error k = record { same = k.same; sent = k.back; looked = k.left }

  -- what a send does after looks, it does
  pub send_after : (a b c : Client W A g) (job : W) (r : Result ℕ (SendRefused W)) → LooksAtRing a b → SendOf job b r c → SendOf job a r c
  send_after a b c job (Ok n) l k = record {
    same = (k.same.0 ∙ l.same.0, k.same.1 ∙ l.same.1);
    ok = rw l.sent at k.ok;
    back = tt;
    ended = rw l.sent at k.ended;
    succeeds = λ p. refl;
    left = let p = l.looked in let q = k.left in omega (arith, p, q);
    full = tt;
  }
  send_after a b c job (Err e) l k = record {
    same = (k.same.0 ∙ l.same.0, k.same.1 ∙ l.same.1);
    ok = tt;
    back = rw l.sent at k.back;
    ended = rw l.sent at k.ended;
    succeeds = λ p. let q = l.looked in k.succeeds (rw l.sent p.0, let r = p.1 in omega (arith, q, r), rw l.sent p.2);
    left = let p = l.looked in let q = k.left in omega (arith, p, q);
    full = rw l.sent at k.full;
  }

  -- so does an end
  pub end_after : (a b c : Client W A g) (r : Result (Unit {0}) SendError) → LooksAtRing a b → EndOf b r c → EndOf a r c
  end_after a b c (Ok n) l k = record {
    same = (k.same.0 ∙ l.same.0, k.same.1 ∙ l.same.1);
    ok = rw l.sent at k.ok;
    back = tt;
    ended = rw l.sent at k.ended;
    succeeds = λ p. refl;
    left = let p = l.looked in let q = k.left in omega (arith, p, q);
    full = tt;
  }
  end_after a b c (Err e) l k = record {
    same = (k.same.0 ∙ l.same.0, k.same.1 ∙ l.same.1);
    ok = tt;
    back = rw l.sent at k.back;
    ended = rw l.sent at k.ended;
    succeeds = λ p. let q = l.looked in k.succeeds (rw l.sent p.0, let r = p.1 in omega (arith, q, r));
    left = let p = l.looked in let q = k.left in omega (arith, p, q);
    full = k.full;
  }
