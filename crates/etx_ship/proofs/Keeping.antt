-- Pushes that wait until something is written are the pushes that are kept.
use Rattle.std.proofs.Common.{◌≡◌, refl, ap, sym, ◌∙◌, ℕ, zero, suc, ◌+◌, false, List, [], ◌∷◌, ◌++◌, replicate, append_assoc, append-nil, arith}
use Rattle.std.specs.List.{flat_map}
use Rattle.etx_dvi.specs.Commands.{bytes_of}
use Rattle.etx_dvi.specs.declared.command.Dvi.{Dvi}
use Rattle.etx_dvi.specs.declared.command.Dvi.TheVariants.{Push, Pop}
use Rattle.etx_ship.specs.Hands.{Ink, wrote, pushed, popped, popped_of, inked, all_inked}
use Rattle.etx_ship.specs.Kept.{is_push, is_pop, onto, kept}

-- so many pushes before other commands
abbrev pub behind_pushes : ℕ → List Dvi → List Dvi
behind_pushes zero cs = cs
behind_pushes (suc n) cs = Push ∷ behind_pushes n cs

-- a push more before them is one more of them
more_pushes : (n : ℕ) (cs : List Dvi) → behind_pushes n (Push ∷ cs) ≡ behind_pushes (suc n) cs
more_pushes zero cs = refl
more_pushes (suc n) cs = ap (λ ds. Push ∷ ds) (more_pushes n cs)

-- a push and the pop behind it go
gone_pair : (n : ℕ) (cs : List Dvi) → kept (behind_pushes n (Push ∷ Pop ∷ cs)) ≡ kept (behind_pushes n cs)
gone_pair zero cs = refl
gone_pair (suc n) cs = ap (onto Push) (gone_pair n cs)

onto_push : (d : Dvi) (ds : List Dvi) → is_pop d ≡ false → onto Push (d ∷ ds) ≡ Push ∷ d ∷ ds
onto_push d ds h = rw h refl

onto_other : (c : Dvi) (cs : List Dvi) → is_push c ≡ false → onto c cs ≡ c ∷ cs
onto_other c cs h = rw h refl

-- in front of another command all pushes stay
stay_before : (n : ℕ) (c : Dvi) (cs : List Dvi) → is_push c ≡ false → is_pop c ≡ false → kept (behind_pushes n (c ∷ cs)) ≡ behind_pushes n (c ∷ kept cs)
stay_before zero c cs p q = onto_other c (kept cs) p
stay_before (suc zero) c cs p q = ap (onto Push) (stay_before zero c cs p q) ∙ onto_push c (kept cs) q
stay_before (suc (suc n)) c cs p q = ap (onto Push) (stay_before (suc n) c cs p q) ∙ onto_push Push (behind_pushes n (c ∷ kept cs)) refl

-- and with nothing behind them
stay_alone : (n : ℕ) → kept (behind_pushes n []) ≡ behind_pushes n []
stay_alone zero = refl
stay_alone (suc zero) = refl
stay_alone (suc (suc n)) = ap (onto Push) (stay_alone (suc n)) ∙ onto_push Push (behind_pushes n []) refl

push_bytes : (n : ℕ) (cs : List Dvi) → flat_map bytes_of (behind_pushes n cs) ≡ replicate n 141 ++ flat_map bytes_of cs
push_bytes zero cs = refl
push_bytes (suc n) cs = ap (λ bs. 141 ∷ bs) (push_bytes n cs)

-- the bytes behind some that are written, where so many pushes wait
abbrev bytes_after : List ℕ → ℕ → List Dvi → List ℕ
bytes_after out n cs = out ++ flat_map bytes_of (kept (behind_pushes n cs))

-- all that is written in the end, and the pushes that wait then
abbrev all_bytes : Ink → List ℕ
all_bytes ink = ink.out ++ replicate ink.waiting 141

at_end : (out : List ℕ) (n : ℕ) → out ++ replicate n 141 ≡ bytes_after out n []
at_end out n =
    ap (λ bs. out ++ bs) (sym (ap (flat_map bytes_of) (stay_alone n) ∙ push_bytes n [] ∙ append-nil (replicate n 141)))

after_push : (out : List ℕ) (n : ℕ) (cs : List Dvi) → bytes_after out (n + 1) cs ≡ bytes_after out n (Push ∷ cs)
after_push out n cs =
    let e : n + 1 ≡ suc n = omega arith in
    rw e (ap (λ ds. out ++ flat_map bytes_of (kept ds)) (sym (more_pushes n cs)))

after_pop : (out : List ℕ) (n : ℕ) (cs : List Dvi) → bytes_after (popped_of out n).out (popped_of out n).waiting cs ≡ bytes_after out n (Pop ∷ cs)
after_pop out zero cs = append_assoc out (142 ∷ []) (flat_map bytes_of (kept cs))
after_pop out (suc n) cs =
    ap (λ ds. out ++ flat_map bytes_of ds) (sym (ap kept (sym (more_pushes n (Pop ∷ cs))) ∙ gone_pair n cs))

after_other : (out : List ℕ) (n : ℕ) (c : Dvi) (cs : List Dvi) → is_push c ≡ false → is_pop c ≡ false → bytes_after ((out ++ replicate n 141) ++ bytes_of c) 0 cs ≡ bytes_after out n (c ∷ cs)
after_other out n c cs p q =
    append_assoc (out ++ replicate n 141) (bytes_of c) (flat_map bytes_of (kept cs))
    ∙ append_assoc out (replicate n 141) (bytes_of c ++ flat_map bytes_of (kept cs))
    ∙ ap (λ bs. out ++ bs) (sym (ap (flat_map bytes_of) (stay_before n c cs p q) ∙ push_bytes n (c ∷ kept cs)))

pub settled : (cs : List Dvi) (ink : Ink) → all_bytes (all_inked cs ink) ≡ bytes_after ink.out ink.waiting cs
unfolding wrote pushed popped inked
settled [] ink = at_end ink.out ink.waiting
settled (Push ∷ cs) ink = settled cs (pushed ink) ∙ after_push ink.out ink.waiting cs
settled (Pop ∷ cs) ink = settled cs (popped ink) ∙ after_pop ink.out ink.waiting cs
settled (c ∷ cs) ink = settled cs (wrote c ink) ∙ after_other ink.out ink.waiting c cs refl refl
