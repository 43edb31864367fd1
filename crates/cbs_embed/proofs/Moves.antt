-- A function that takes both fields of a box out of one struct, and puts them into another, hands on what they own.
use mathlib.Core.Path.{refl}
use mathlib.Core.List.{[], ◌∷◌}
use Prim.Native.Nat.{ℕ}
use seplogic.Ra.Ura.{Ura}
use mir.Syntax.{Fn, Sym, Ty, ty_ptr, ty_struct, tcons, tnil, local, value_local, place, field, copy, rv_opd, aggregate, assign, seq, return}
use mir.Val.{Val}
use base.Logic.{SProp, ent}
use prog.Wp.{WpFn, Tables}
use types.Logic.{Logic}
use types.Kit.{raw, ◌$◌, ◌∵◌, !, qed, by, keep}
use types.Part.{whole, sub, agg}
use types.Run.{stop, fld, no_more, and_then, of_opd, returns, enter}
use types.ByLocal.{alloc_all, pass_all, free_all, look_at, get, get_in, sets}
use Rattle.core.proofs.alloc.Calls.{α, Fits}
use Rattle.std_alloc.proofs.BoxSteps.Form.{word, box_typed}
use Rattle.cbs_embed.proofs.AsBox.{E}

abbrev two_fields : Sym → Ty
two_fields name = ty_struct name (tcons ty_ptr (tcons (α E.al) tnil))

-- the code: both fields, the pointer as one to another type, and the new struct
abbrev pub moves : Sym → Sym → Fn
moves from to = record {
  lifetimes = 0;
  outlives = [];
  ty_params = [];
  givens = 0;
  params = 1;
  locals = local (two_fields to) value_local ∷ local (two_fields from) value_local ∷ local ty_ptr value_local ∷ local (α E.al) value_local
      ∷ local ty_ptr value_local ∷ [];
  body = seq (assign (place 2 []) (rv_opd (copy (place 1 (field 0 ∷ []))))) (seq (assign (place 3 []) (rv_opd (copy (place 1 (field 1 ∷ [])))))
      (seq (assign (place 4 []) (rv_opd (copy (place 2 [])))) (seq (assign (place 0 []) (aggregate (copy (place 4 []) ∷ copy (place 3 []) ∷ []))) return)));
}

-- what holds of the machine value that is passed holds of the one that is returned, which is the same
pub hands_on : (from to : Sym) {M : Type 1} {𝓤 : Ura M} (𝓛 : Logic 𝓤) (𝓣 : Tables 𝓤 𝓛.H) {P : SProp 𝓤} (Post : Val → SProp 𝓤) (hv : Val) (b o : ℕ)
    → Fits E.al hv → ent 𝓤 P (Post (word E hv b o)) → ent 𝓤 P (WpFn 𝓤 𝓛.H 𝓣.C 𝓣.Λ (moves from to) (word E hv b o ∷ []) Post)
hands_on from to 𝓛 𝓣 {P = P} Post hv b o fa post =
    qed 𝓛 (raw P ∷ []) ∵ enter ! 𝓣.C 𝓣.Λ (moves from to) (word E hv b o ∷ []) _ $ alloc_all ! (λ ls. pass_all ! refl (box_typed E hv b o fa, tt) $
    sets ! (of_opd ! (get_in ! (fld ! refl (stop !)) (sub ! 0 refl (whole !)))) refl (tt, tt) $
    sets ! (of_opd ! (get_in ! (fld ! refl (stop !)) (sub ! 1 refl (whole !)))) refl fa $
    sets ! (of_opd ! (get ! refl)) refl (tt, tt) $ sets ! (agg ! (and_then ! (get ! refl) (and_then ! (get ! refl) (no_more !)))) refl (box_typed E hv b o fa) $
    returns ! (look_at ! 0 refl) $ free_all ! refl $ keep ! (0 ∷ []) $ by ! post)
