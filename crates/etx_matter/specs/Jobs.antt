-- A job as contracts see it.
use Rattle.std.specs.Prelude.{ℕ, List}

pub record JobState : Type 0 where
  pub name : List ℕ
  pub budget : ℕ
