use Rattle.std.proofs.Common.{◌≡◌, ℤ, sym, ◌∙◌, ap, subst}
use Rattle.std.proofs.lemmas.Int.{to_z-of_z}
use mir.Syntax.{w32}
use mir.Val.{to_z, of_z}
use Rattle.etx_input.specs.declared.gift.Gift.TheVariants.{Stay, Leave, Empty}
use Rattle.etx_input.specs.Gifts.{innermost_left}
use Rattle.etx_input.specs.Levels.{InputState, Given, given_of}
use Rattle.etx_input.specs.Marks.{input_of}
use Rattle.etx_input.proofs.Stack.{given-gift}
use Rattle.etx_input.proofs.levels.Levels.next.Goals as goal

pub returns-in-Stay : goal.returns-in-Stay
returns-in-Stay g c =
    let cats = g.C.CatOf.category c.args.cats.now in
    let endline = to_z w32 (of_z w32 c.args.endline) in
    let v : InputState = input_of c.levels.self in
    let next = c.in-Stay.next in
    let given : given_of cats endline (input_of c.args.self.now) ≡ record { next = next; input = input_of c.give.new.self } =
    sym c.levels.invariant.given
    ∙ given-gift cats endline v (Stay next) (sym c.in_ok-next.ensures.gift ∙ c.in-Stay.is)
    ∙ ap (λ (u : InputState). record { next = next; input = u }) (sym c.in_ok-next.ensures.input) in
    let there : given_of cats c.args.endline (input_of c.args.self.now) ≡ record { next = next; input = input_of c.give.new.self } =
    subst (λ (e : ℤ). given_of cats e (input_of c.args.self.now) ≡ record { next = next; input = input_of c.give.new.self }) (to_z-of_z w32 c.args.endline c.ranges.endline) given in
    record {
      next = sym (ap (λ (x : Given). x.next) there);
      input = sym (ap (λ (x : Given). x.input) there);
      kept = λ m first h. c.in_ok-next.ensures.kept m first (c.levels.invariant.kept m first h);
    }

pub returns-in-Leave : goal.returns-in-Leave
returns-in-Leave g c =
    let cats = g.C.CatOf.category c.args.cats.now in
    let endline = to_z w32 (of_z w32 c.args.endline) in
    let v : InputState = input_of c.levels.self in
    let next = c.in-Leave.next in
    let left = c.in_ok-leave-in-Leave.ensures.left ∙ ap (λ (u : InputState). innermost_left u.levels u.left) c.in_ok-next.ensures.input in
    let given : given_of cats endline (input_of c.args.self.now) ≡ record { next = next; input = input_of c.leave.new.self } =
    sym c.levels.invariant.given
    ∙ given-gift cats endline v (Leave next) (sym c.in_ok-next.ensures.gift ∙ c.in-Leave.is)
    ∙ ap (λ (u : InputState). record { next = next; input = u }) (sym left) in
    let there : given_of cats c.args.endline (input_of c.args.self.now) ≡ record { next = next; input = input_of c.leave.new.self } =
    subst (λ (e : ℤ). given_of cats e (input_of c.args.self.now) ≡ record { next = next; input = input_of c.leave.new.self }) (to_z-of_z w32 c.args.endline c.ranges.endline) given in
    record {
      next = sym (ap (λ (x : Given). x.next) there);
      input = sym (ap (λ (x : Given). x.input) there);
      kept = λ m first h. c.in_ok-leave-in-Leave.ensures.kept m first (c.in_ok-next.ensures.kept m first (c.levels.invariant.kept m first h));
    }

pub levels-preserved : goal.levels-preserved
levels-preserved g c =
    let cats = g.C.CatOf.category c.args.cats.now in
    let endline = to_z w32 (of_z w32 c.args.endline) in
    let v : InputState = input_of c.levels.self in
    let left = c.in_ok-leave-in-Empty.ensures.left ∙ ap (λ (u : InputState). innermost_left u.levels u.left) c.in_ok-next.ensures.input in
    record {
      given = ap (given_of cats endline) left
          ∙ sym (given-gift cats endline v Empty (sym c.in_ok-next.ensures.gift ∙ c.in-Empty.is))
          ∙ c.levels.invariant.given;
      kept = λ m first h. c.in_ok-leave-in-Empty.ensures.kept m first (c.in_ok-next.ensures.kept m first (c.levels.invariant.kept m first h));
    }
