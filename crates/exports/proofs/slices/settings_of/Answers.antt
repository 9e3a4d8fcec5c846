use Rattle.exports.proofs.slices.settings_of.Goals as goal

pub returns : goal.returns
returns c = rw c.on_by-on.ensures
