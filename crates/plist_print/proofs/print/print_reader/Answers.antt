use Rattle.plist_binread.specs.BinaryReader.{Steps, binary_source, file_items}
use Rattle.plist_binread.proofs.ReaderCalls.{file_comes}
use Rattle.plist_print.proofs.SourceItems.{run_counted, run_prints, run_unchanged}
use Rattle.plist_print.proofs.print.print_reader.Goals as goal

pub returns : goal.returns
returns g c = record {
  printed = run_prints Steps (file_items g.S.Source.known) file_comes _ _ _ _ _ c.print_source.ensures;
  answers = c.print_source.ensures;
  unchanged = run_unchanged Steps (λ reader. g.S.Source.known (binary_source reader))
      (λ old item new step. step.gives.unchanged) _ _ _ _ _ c.print_source.ensures;
  failures = run_counted Steps (λ reader. g.S.Source.failures (binary_source reader))
      (λ old item new step. step.gives.failures) _ _ _ _ _ c.print_source.ensures;
}
