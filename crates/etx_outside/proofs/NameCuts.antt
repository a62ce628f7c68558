-- The name of a job, by the place of the last full stop.
use Rattle.std.proofs.Common.{◌≡◌, ◌-◌, ◌<◌, ◌≤◌, ℕ, true, false, not, cond, List, length, get_or, take, sym, ap, ◌∙◌, arith}
use Rattle.std.specs.List.{before_last, suffix_len}
use Rattle.std.proofs.lemmas.List.{get_or_default}
use Rattle.std.proofs.lemmas.List.Folds.{list_any_none, list_any_at}
use Rattle.std.proofs.lemmas.List.Sums.{suffix_len_is}
use Rattle.etx_outside.specs.Names.{is_full_stop, has_full_stop, job_name_of}

-- no full stop stands at a place from n on
abbrev pub NoneFrom : List ℕ → ℕ → Type 0
NoneFrom name n = (k : ℕ) → n ≤ k → k < length name → is_full_stop (get_or name k 0) ≡ false

pub job_name_whole : (name : List ℕ) → NoneFrom name 0 → name ≡ job_name_of name
job_name_whole name none =
    let absent : has_full_stop name ≡ false = list_any_none is_full_stop name (λ k d lt. ap is_full_stop (get_or_default name k d 0 lt) ∙ none k (omega arith) lt) in
    sym (ap (λ b. cond b (before_last is_full_stop name) name) absent)

pub job_name_cut : (name : List ℕ) (end : ℕ) → 0 < end → end ≤ length name → get_or name (end - 1) 0 ≡ 46 → NoneFrom name end → take (end - 1) name ≡ job_name_of name
job_name_cut name end some within here none =
    let stops : is_full_stop (get_or name (end - 1) 0) ≡ true = ap is_full_stop here in
    let there : has_full_stop name ≡ true = list_any_at is_full_stop name (end - 1) 0 (omega arith) stops in
    let behind : suffix_len (λ x. not (is_full_stop x)) name ≡ length name - end =
    suffix_len_is (λ x. not (is_full_stop x)) name end 0 within (λ k from lt. ap not (none k from lt)) (λ _. ap not stops) in
    let cut : length name - suffix_len (λ x. not (is_full_stop x)) name - 1 ≡ end - 1 = omega (arith, behind) in
    sym (ap (λ b. cond b (before_last is_full_stop name) name) there ∙ ap (λ k. take k name) cut)
