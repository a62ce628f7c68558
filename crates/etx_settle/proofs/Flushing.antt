-- How the writing of a history goes on.
use Rattle.std.proofs.Common.{◌≡◌, ◌++◌, [], refl, sym, ◌∙◌, ap, append_assoc}
use Rattle.std.proofs.lemmas.List.{append-nil}
use Rattle.etx_outside.specs.Entries.{History}
use Rattle.etx_outside.specs.Outside.{Outside, after, Front}
use Rattle.etx_outside.proofs.Outsides.{after-nil, after-append}

-- of a whole history the rest is still to be written
pub record Settling (whole rest : History) (old now : Outside) : Type 0 where
  pub done : History
  pub parts : done ++ rest ≡ whole
  pub now_is : now ≡ after done old

pub settling_starts : (whole : History) (old : Outside) → Settling whole whole old old
settling_starts whole old = record { done = []; parts = refl; now_is = sym (after-nil old) }

pub settling_goes_on : {whole now_rest : History} (h rest : History) {old mid new : Outside} → Settling whole now_rest old mid → now_rest ≡ h ++ rest → new ≡ after h mid → Settling whole rest old new
settling_goes_on h rest {old} {mid} {new} s next step = record {
  done = s.done ++ h;
  parts = append_assoc s.done h rest ∙ ap (λ (l : History). s.done ++ l) (sym next) ∙ s.parts;
  now_is = step ∙ ap (after h) s.now_is ∙ sym (after-append s.done h old);
}

pub settling_ends : {whole : History} {old now : Outside} → Settling whole [] old now → now ≡ after whole old
settling_ends {whole} {old} {now} s = s.now_is ∙ ap (λ (h : History). after h old) (sym (append-nil s.done) ∙ s.parts)

-- a front of what is next is a front of the whole
pub settling_stops : {whole now_rest : History} (h rest : History) {old mid new : Outside} → Settling whole now_rest old mid → now_rest ≡ h ++ rest → Front h mid new → Front whole old new
settling_stops h rest {old} {mid} {new} s next f = record {
  written = s.done ++ f.written;
  rest = f.rest ++ rest;
  parts =
      append_assoc s.done f.written (f.rest ++ rest)
      ∙ ap (λ (l : History). s.done ++ l) (sym (append_assoc f.written f.rest rest) ∙ ap (λ (l : History). l ++ rest) f.parts ∙ sym next)
      ∙ s.parts;
  now = f.now ∙ ap (after f.written) s.now_is ∙ sym (after-append s.done f.written old);
}
