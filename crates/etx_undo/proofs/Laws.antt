-- What a store promises over any run of sets and goings back.
use Rattle.std.proofs.Common.{◌≡◌, ℕ, ◌≤◌, List, [], ◌∷◌, ◌∙◌, subst, arith}
use Rattle.etx_undo.specs.declared.slot.Slot.{Slot}
use Rattle.etx_undo.specs.History.{Kept, place, present, at, IsSince, IsBack, Deed, Sets, Goes, Does, IsFrom, CameBy}
use Rattle.etx_undo.proofs.Histories.{IsSince-self, IsSince-set, IsSince-back, at-place}

module _ {V : Type 0} where
  IsSince-deed : (p : ℕ) (d : Deed V) (start old new : Kept V) → IsSince p start old → IsFrom p d → Does d old new → IsSince p start new
  IsSince-deed p (Sets k v) start old new since from does = IsSince-set p start old new k v since does
  IsSince-deed p (Goes m) start old new since from does = IsSince-back p m start old new since from does.back does.same

  IsSince-run : (p : ℕ) (ds : List (Deed V)) (start old new : Kept V) → IsSince p start old → CameBy p ds old new → IsSince p start new
  IsSince-run p [] start old new since came = subst (IsSince p start) came since
  IsSince-run p (d ∷ ds) start old new since (next, from, does, came) = IsSince-run p ds start next new (IsSince-deed p d start old next since from does) came

  -- after any sets and goings back to places not before p, the place p is live, and each place up to p is as it was
  pub IsSince-deeds : (p : ℕ) (ds : List (Deed V)) (old new : Kept V) → p ≤ place old → CameBy p ds old new → IsSince p old new
  IsSince-deeds p ds old new live came = IsSince-run p ds old old new (IsSince-self p old live) came

  -- a mark is taken, then any sets and goings back to places not before it are done:
  -- looking back at the mark finds what was there when it was taken
  pub at-deeds : (ds : List (Deed V)) (old new : Kept V) → CameBy (place old) ds old new → (q : Slot) → at new (place old) q ≡ present old q
  at-deeds ds old new came q = (IsSince-deeds (place old) ds old new (omega arith) came).same (place old) q (omega arith) ∙ at-place old q

  -- and going back to it gives the map that was there
  pub present-deeds : (ds : List (Deed V)) (old new end : Kept V) → CameBy (place old) ds old new → IsBack (place old) new end → (q : Slot) → present end q ≡ present old q
  present-deeds ds old new end came back q = back.now q ∙ at-deeds ds old new came q
