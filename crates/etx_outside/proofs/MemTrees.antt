-- What a creation and an addition in memory leave, in the words of the trait.
use Rattle.std.proofs.Common.{◌≡◌, ◌⊎◌, ℕ, ◌/◌, List, [], true, false, length, take, IsSome, Result, Ok, Err, OnOk, OnErr, refl, sym, ◌∙◌, ap, subst, inl}
use Rattle.std.specs.Prelude.{⊤, IsErrOf}
use Rattle.std.proofs.lemmas.Result.{on_ok_weaker}
use Rattle.etx_outside.specs.declared.tree.TreeFault.{TreeFault}
use Rattle.etx_outside.specs.declared.tree.TreeFault.TheVariants.{Failed, OutOfMemory}
use Rattle.etx_outside.specs.Faults.{Counts}
use Rattle.etx_outside.specs.Entries.{Files, put, files_after, bytes_to}
use Rattle.etx_outside.specs.Memory.{FileMap, TreeState, file_at, with_file, with_more, is_failing, half, tree_written, with_write_fault}
use Rattle.etx_outside.proofs.Put.{put_keeps, put_same, files_after_keeps}
use Rattle.etx_outside.proofs.FileMaps.{file_at-with_file, file_at-with_more}

abbrev Answer : Type 0
Answer = Result (Unit {0}) TreeFault

-- each file stays there
abbrev Keeps : Files → Files → Type 0
Keeps old new = (q : List ℕ) → IsSome (old q) → IsSome (new q)

keeps_along : (old new : Files) → new ≡ old → Keeps old new
keeps_along old new is = λ q there. subst (λ (f : Files). IsSome (f q)) (sym is) there

keeps_put : (name bytes : List ℕ) (old new : Files) → new ≡ put name bytes old → Keeps old new
keeps_put name bytes old new is = λ q there. subst (λ (f : Files). IsSome (f q)) (sym is) (put_keeps name bytes old q there)

keeps_bytes : (name bytes : List ℕ) (old new : Files) → new ≡ files_after (bytes_to name bytes) old → Keeps old new
keeps_bytes name bytes old new is = λ q there. subst (λ (f : Files). IsSome (f q)) (sym is) (files_after_keeps (bytes_to name bytes) old q there)

abbrev Listed : TreeState → Type 0
Listed t = is_failing t.failing t.calls ≡ true

abbrev Unlisted : TreeState → Type 0
Unlisted t = is_failing t.failing t.calls ≡ false

abbrev counts : TreeState → Counts
counts t = record { reads = t.read_faults; writes = t.write_faults }

-- what is written counts no fault
pub counts_stay : (old new : TreeState) (files : FileMap) (r : Answer) → OnOk r (Unlisted old × (new ≡ tree_written files old)) → OnOk r (⊤ → counts new ≡ counts old)
counts_stay old new files r ok = on_ok_weaker r (λ h _. ap counts h.1) ok

module _ (old new : TreeState) (name : List ℕ) where
  now_put : new ≡ tree_written (with_file name [] old.files) old → file_at new.files ≡ put name [] (file_at old.files)
  now_put is = ap (λ (t : TreeState). file_at t.files) is ∙ file_at-with_file old.files name []

  pub created : (r : Answer) → OnOk r (Unlisted old × (new ≡ tree_written (with_file name [] old.files) old)) → OnOk r (⊤ → file_at new.files ≡ put name [] (file_at old.files))
  created r ok = on_ok_weaker r (λ h _. now_put h.1) ok

  pub opened : (r : Answer) → OnOk r (Unlisted old × (new ≡ tree_written (with_file name [] old.files) old)) → OnOk r (IsSome (file_at new.files name))
  opened r ok = on_ok_weaker r (λ h. let there = put_same name [] (file_at old.files) in subst (λ (f : Files). IsSome (f name)) (sym (now_put h.1)) (subst IsSome (sym there) refl)) ok

  pub not_created : (r : Answer) → (IsErrOf r Failed → Listed old × (new ≡ with_write_fault (tree_written old.files old))) → (IsErrOf r OutOfMemory → new ≡ old)
      → OnErr r (⊤ → (file_at new.files ≡ file_at old.files) ⊎ (file_at new.files ≡ put name [] (file_at old.files)))
  not_created (Ok x) failed memory = tt
  not_created (Err Failed) failed memory = λ _. inl (ap (λ (t : TreeState). file_at t.files) (failed refl).1)
  not_created (Err OutOfMemory) failed memory = λ _. inl (ap (λ (t : TreeState). file_at t.files) (memory refl))

  pub create_keeps : (r : Answer) → OnOk r (Unlisted old × (new ≡ tree_written (with_file name [] old.files) old)) → (IsErrOf r Failed → Listed old × (new ≡ with_write_fault (tree_written old.files old))) → (IsErrOf r OutOfMemory → new ≡ old)
      → Keeps (file_at old.files) (file_at new.files)
  create_keeps (Ok x) ok failed memory = keeps_put name [] (file_at old.files) (file_at new.files) (now_put ok.1)
  create_keeps (Err Failed) ok failed memory = keeps_along (file_at old.files) (file_at new.files) (ap (λ (t : TreeState). file_at t.files) (failed refl).1)
  create_keeps (Err OutOfMemory) ok failed memory = keeps_along (file_at old.files) (file_at new.files) (ap (λ (t : TreeState). file_at t.files) (memory refl))

  module _ (there : IsSome (file_at old.files name)) (bytes : List ℕ) where
    more : (some : List ℕ) → new.files ≡ with_more name some old.files → file_at new.files ≡ files_after (bytes_to name some) (file_at old.files)
    more some is = ap file_at is ∙ file_at-with_more old.files name some there

    pub appended : (r : Answer) → OnOk r (Unlisted old × (new ≡ tree_written (with_more name bytes old.files) old)) → OnOk r (⊤ → file_at new.files ≡ files_after (bytes_to name bytes) (file_at old.files))
    appended r ok = on_ok_weaker r (λ h _. more bytes (ap (λ (t : TreeState). t.files) h.1)) ok

    pub not_appended : (r : Answer) → (IsErrOf r Failed → Listed old × (new ≡ with_write_fault (tree_written (with_more name (half bytes) old.files) old))) → (IsErrOf r OutOfMemory → new ≡ old)
        → OnErr r (⊤ → (n : ℕ) × (file_at new.files ≡ files_after (bytes_to name (take n bytes)) (file_at old.files)))
    not_appended (Ok x) failed memory = tt
    not_appended (Err Failed) failed memory = λ _. (length bytes / 2, more (half bytes) (ap (λ (t : TreeState). t.files) (failed refl).1))
    not_appended (Err OutOfMemory) failed memory = λ _. (0, ap (λ (t : TreeState). file_at t.files) (memory refl))

    pub append_keeps : (r : Answer) → OnOk r (Unlisted old × (new ≡ tree_written (with_more name bytes old.files) old)) → (IsErrOf r Failed → Listed old × (new ≡ with_write_fault (tree_written (with_more name (half bytes) old.files) old))) → (IsErrOf r OutOfMemory → new ≡ old)
        → Keeps (file_at old.files) (file_at new.files)
    append_keeps (Ok x) ok failed memory = keeps_bytes name bytes (file_at old.files) (file_at new.files) (more bytes (ap (λ (t : TreeState). t.files) ok.1))
    append_keeps (Err Failed) ok failed memory = keeps_bytes name (half bytes) (file_at old.files) (file_at new.files) (more (half bytes) (ap (λ (t : TreeState). t.files) (failed refl).1))
    append_keeps (Err OutOfMemory) ok failed memory = keeps_along (file_at old.files) (file_at new.files) (ap (λ (t : TreeState). file_at t.files) (memory refl))
