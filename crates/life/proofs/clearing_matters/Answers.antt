use Rattle.life.proofs.Example.{uncleared_lies}
use Rattle.life.proofs.clearing_matters.Goals as goal

pub returns : goal.returns
returns c = uncleared_lies
