use Rattle.std.proofs.Common.{ap, sym, ◌∙◌}
use Rattle.endpoint_script.specs.Items.{rest_of}
use Rattle.endpoint_script.specs.Resets.{next_epoch}
use Rattle.endpoint_script.proofs.Lists.{epoch_found, epoch_later, epoch_none}
use Rattle.endpoint_script.proofs.item_list.ItemList.begin_epoch.Goals as goal

pub returns-then-found : goal.returns-then-found
returns-then-found c =
    c.advance.ensures
    ∙ sym
    (epoch_found c.loop-item.self (rest_of c.loop-item.self) c.in-Some.item.now c.in-Some.ensures.item
    (sym c.is_epoch-found.ensures ∙ c.if-found.true))
    ∙ c.loop-item.invariant

pub loop-item-preserved : goal.loop-item-preserved
loop-item-preserved c =
    ap next_epoch c.advance.ensures
    ∙ sym
    (epoch_later c.loop-item.self (rest_of c.loop-item.self) c.in-Some.item.now c.in-Some.ensures.item
    (sym c.is_epoch-found.ensures ∙ c.if-found.false))
    ∙ c.loop-item.invariant

pub returns : goal.returns
returns c = c.in_default.ensures.item ∙ sym (epoch_none c.loop-item.self c.in_default.ensures.item) ∙ c.loop-item.invariant
