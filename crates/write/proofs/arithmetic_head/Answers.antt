use Rattle.write.proofs.arithmetic_head.Goals as goal

pub returns : goal.returns
returns c = c.three_types.ensures.head c.arith_number.ensures c.form_modifier.ensures
