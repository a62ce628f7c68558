use Rattle.etx_job.proofs.driver.close.Goals as goal

pub returns-in-Spent : goal.returns-in-Spent
returns-in-Spent c = rw c.in-Spent.is c.close_by-in-Spent.ensures

pub returns-in-Unbuilt : goal.returns-in-Unbuilt
returns-in-Unbuilt c = rw c.in-Unbuilt.is c.close_by-in-Unbuilt.ensures
