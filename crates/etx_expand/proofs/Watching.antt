-- The watch of a stack, entry by entry.
use Rattle.std.proofs.Common.{◌≡◌, ℕ, ◌+◌, ◌<◌, List, ◌∷◌, length, drop, get_or, slice_get, Some, refl, sym, add-one}
use Rattle.std.proofs.Math.Seq.{drop-cons}
use Rattle.std.proofs.lemmas.Option.{slice_get_within, get_or_from_slice_get}
use Rattle.etx_state.specs.declared.scan.Entry.{Entry}
use Rattle.etx_expand.specs.declared.get.Watch.{Watch}
use Rattle.etx_expand.specs.Getting.{watch_at, watch_of}

drop_some : (es : List Entry) (i : ℕ) (e : Entry) → slice_get es i ≡ Some e → drop i es ≡ e ∷ drop (i + 1) es
drop_some es i e is =
    let within : i < length es = slice_get_within es i e is in
    let here : get_or es i e ≡ e = get_or_from_slice_get es i e e is in
    rw (add-one, drop-cons es i e, here)

pub watch_next : (es : List Entry) (i : ℕ) (e : Entry) → slice_get es i ≡ Some e → watch_of (drop i es) ≡ watch_at e (watch_of (drop (i + 1) es))
unfolding watch_of
watch_next es i e is = rw (drop_some es i e is) refl

-- the first entry from the top that says something decides
pub watch_found : (es : List Entry) (i : ℕ) (e : Entry) (w : Watch) → Some e ≡ slice_get es i → ((others : Watch) → watch_at e others ≡ w) → watch_of (drop i es) ≡ watch_of es → w ≡ watch_of es
watch_found es i e w is says before =
    let next : watch_of (drop i es) ≡ watch_at e (watch_of (drop (i + 1) es)) = watch_next es i e (sym is) in
    let said : watch_at e (watch_of (drop (i + 1) es)) ≡ w = says (watch_of (drop (i + 1) es)) in
    cc

-- one that says nothing is passed
pub watch_passed : (es : List Entry) (i : ℕ) (e : Entry) → Some e ≡ slice_get es i → ((others : Watch) → watch_at e others ≡ others) → watch_of (drop i es) ≡ watch_of es → watch_of (drop (i + 1) es) ≡ watch_of es
watch_passed es i e is passes before =
    let next : watch_of (drop i es) ≡ watch_at e (watch_of (drop (i + 1) es)) = watch_next es i e (sym is) in
    let same : watch_at e (watch_of (drop (i + 1) es)) ≡ watch_of (drop (i + 1) es) = passes (watch_of (drop (i + 1) es)) in
    cc
