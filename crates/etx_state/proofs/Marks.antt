-- What the rest of the state was at a mark, behind a call.
use Rattle.std.proofs.Common.{◌≡◌, ℕ, ◌≤◌, List, ◌++◌, length, take, reverse, refl, sym, ◌∙◌, ap, subst, arith}
use Rattle.std.proofs.lemmas.List.{take-append-le, take-take, take_all, length-append, length-take}
use Rattle.etx_stack.specs.declared.stack.Mark.{Mark}
use Rattle.etx_stack.specs.Undoing as undoing
use Rattle.etx_undo.specs.declared.state_mark.RestMark.{RestMark}
use Rattle.etx_state.specs.declared.parts.Parts.{Parts}
use Rattle.etx_state.specs.declared.rest.Rest.{Rest}
use Rattle.etx_state.specs.Saves.{values_in, values_in_at, KeepsIn, IsKeptIn, IsBeforeIn}
use Rattle.etx_state.specs.Rests.{rest_of, rest_at, IsKept, IsBefore, Keeps}
use Rattle.etx_state.proofs.Words.{at_kept}

-- a call that leaves all but the values
pub keeps_scopes : (old new : Rest) → KeepsIn old.scopes new.scopes → new.names ≡ old.names → new.conditions ≡ old.conditions → new.job ≡ old.job → Keeps old new
keeps_scopes old new kept names conditions job m first h = record {
  scopes = kept m first.scopes h.scopes;
  named = subst (λ (ns : List (List ℕ)). m.names ≤ length ns) (sym names) h.named;
  names = ap (take m.names) names ∙ h.names;
  conditions = subst (undoing.IsSince m.conditions first.conditions) (sym conditions) h.conditions;
  job = job ∙ h.job;
}

-- a call that adds names
pub keeps_named : (old new : Rest) (more : List (List ℕ)) → KeepsIn old.scopes new.scopes → new.names ≡ old.names ++ more → new.conditions ≡ old.conditions → new.job ≡ old.job → Keeps old new
keeps_named old new more kept names conditions job m first h = record {
  scopes = kept m first.scopes h.scopes;
  named = subst (λ (ns : List (List ℕ)). m.names ≤ length ns) (sym names) (let l = length-append old.names more in let le = h.named in omega arith);
  names = ap (take m.names) names ∙ take-append-le m.names old.names more h.named ∙ h.names;
  conditions = subst (undoing.IsSince m.conditions first.conditions) (sym conditions) h.conditions;
  job = job ∙ h.job;
}

-- a call that leaves all but the conditionals
pub keeps_conditions : (old new : Rest) → new.scopes ≡ old.scopes → new.names ≡ old.names → undoing.Keeps old.conditions new.conditions → new.job ≡ old.job → Keeps old new
keeps_conditions old new scopes names kept job m first h = record {
  scopes = subst (IsKeptIn m first.scopes) (sym scopes) h.scopes;
  named = subst (λ (ns : List (List ℕ)). m.names ≤ length ns) (sym names) h.named;
  names = ap (take m.names) names ∙ h.names;
  conditions = let now = kept m.conditions h.conditions.live in record { live = now.live; same = now.same ∙ h.conditions.same };
  job = job ∙ h.job;
}

-- what was at a mark is what it was there
pub rest_kept : (m : RestMark) (first r : Rest) → IsKept m first r → rest_at r m ≡ rest_at first m
rest_kept m first r h = λ i. record {
  values = at_kept m first.scopes r.scopes h.scopes i;
  names = h.names i;
  conditions = reverse (h.conditions.same i);
  job = h.job i;
  mag = m.mag;
}

-- a mark is taken
pub marked_rest : (old new : Rest) (m : RestMark) → new.names ≡ old.names → m.names ≡ length old.names → undoing.at new.conditions m.conditions ≡ new.conditions.items → m.mag ≡ new.mag
    → values_in_at new.scopes m ≡ values_in new.scopes → rest_at new m ≡ rest_of new
marked_rest old new m en el ec em ev = λ i. record {
  values = ev i;
  names = (ap (take m.names) en ∙ take_all m.names old.names (omega arith) ∙ sym en) i;
  conditions = reverse (ec i);
  job = new.job;
  mag = em i;
}

pub marked_live : (old new : Rest) (m : RestMark) → new.names ≡ old.names → m.names ≡ length old.names → undoing.IsLive m.conditions new.conditions → IsKeptIn m new.scopes new.scopes → IsKept m new new
marked_live old new m en el live h = record {
  scopes = h;
  named = subst (λ (ns : List (List ℕ)). m.names ≤ length ns) (sym en) (omega arith);
  names = refl;
  conditions = record { live = live; same = refl };
  job = refl;
}

pub marked_before : (old : Rest) (m : RestMark) → m.names ≡ length old.names → ((k : Mark) → undoing.IsLive k old.conditions → undoing.IsBefore k m.conditions)
    → ((k : RestMark) (first : Parts) → IsKeptIn k first old.scopes → IsBeforeIn k m) → (k : RestMark) (first : Rest) → IsKept k first old → IsBefore k m
marked_before old m el last before k first h = record {
  scopes = before k first.scopes h.scopes;
  names = let le = h.named in omega arith;
  conditions = last k.conditions h.conditions.live;
}

-- it goes back
pub back_rest : (old new : Rest) (m : RestMark) → new.names ≡ take m.names old.names → new.conditions.items ≡ undoing.at old.conditions m.conditions → new.job ≡ old.job → new.mag ≡ m.mag
    → values_in new.scopes ≡ values_in_at old.scopes m → rest_of new ≡ rest_at old m
back_rest old new m en ec ej em ev = λ i. record { values = ev i; names = en i; conditions = reverse (ec i); job = ej i; mag = em i }

pub back_before : (old new : Rest) (m : RestMark) → new.names ≡ take m.names old.names → new.job ≡ old.job → m.names ≤ length old.names
    → ((k : Mark) → undoing.IsBefore k m.conditions → undoing.IsLive k old.conditions → undoing.IsSince k old.conditions new.conditions)
    → ((k : RestMark) (first : Parts) → IsBeforeIn k m → IsKeptIn k first old.scopes → IsKeptIn k first new.scopes)
    → (k : RestMark) (first : Rest) → IsBefore k m → IsKept k first old → IsKept k first new
back_before old new m en ej le keeps kept k first before h =
    let now = keeps k.conditions before.conditions h.conditions.live in record {
      scopes = kept k first.scopes before.scopes h.scopes;
      named = subst (λ (ns : List (List ℕ)). k.names ≤ length ns) (sym en) (let l = length-take m.names old.names in let b = before.names in omega arith);
      names = ap (take k.names) en ∙ take-take k.names m.names old.names before.names ∙ h.names;
      conditions = record { live = now.live; same = now.same ∙ h.conditions.same };
      job = ej ∙ h.job;
    }
