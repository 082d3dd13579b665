use Rattle.plist_vectors.proofs.decode_counter.all_items_are_yielded_while_a_ledger_counts.Given as goal

abbrev pub ghosts-items_counted : goal.ghosts-items_counted
ghosts-items_counted g a = record { name = a.blank.name; parts = a.blank.parts }
