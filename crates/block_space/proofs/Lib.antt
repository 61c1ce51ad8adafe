mod Heap
mod Order
mod Rising
