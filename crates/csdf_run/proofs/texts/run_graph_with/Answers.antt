use Rattle.csdf_run.proofs.texts.run_graph_with.Goals as goal

pub returns-clause-run : goal.returns-clause-run
returns-clause-run g c = c.run_and_hand_back-texts.ensures.run

pub returns-clause-sequential : goal.returns-clause-sequential
returns-clause-sequential g c = c.run_and_hand_back-texts.ensures.sequential

pub returns-clause-rooms : goal.returns-clause-rooms
returns-clause-rooms g c = c.run_and_hand_back-texts.ensures.rooms

pub returns-clause-refused : goal.returns-clause-refused
returns-clause-refused g c = c.run_and_hand_back-texts.ensures.refused
