mod SharedBatches
mod FirstTasks
