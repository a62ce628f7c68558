use Rattle.etx_sealed.proofs.Nesting.{nested_both}
use Rattle.etx_texts.proofs.items.put_all.Goals as goal

pub returns : goal.returns
returns c = λ h. nested_both c.args.list.now c.args.tail c.append.new.self h c.requires c.in_ok-append.ensures.ok
