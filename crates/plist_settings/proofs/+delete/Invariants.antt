use Rattle.std.proofs.Common.{length}
use Rattle.plist_settings.proofs.+delete.Given as goal

abbrev pub decreases-delete : goal.decreases-delete
decreases-delete l = length l.path.now
