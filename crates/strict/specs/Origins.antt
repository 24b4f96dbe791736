-- The code's own `Origin` as the definition has it: register and part.
use Rattle.rules.specs.Strict as paper
use Rattle.strict.specs.declared.Origin.{Origin}

abbrev pub origin_of : Origin → paper.Origin
origin_of x = record { register = x.register.0; part = x.part }
