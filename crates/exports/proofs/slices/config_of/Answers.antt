use Rattle.exports.proofs.slices.config_of.Goals as goal

pub returns : goal.returns
returns c = rw c.on_by-on.ensures
